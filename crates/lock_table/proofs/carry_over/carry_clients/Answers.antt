use Rattle.std.proofs.Common.{◌≡◌, ◌<◌, ◌+◌, ◌++◌, ◌∷◌, ℕ, List, [], true, false, cond, filter, get_or, length, map, take, sym, ap, ◌∙◌, append_assoc, arith, rules}
use Rattle.std.proofs.lemmas.List.{append-nil, map-append}
use Rattle.std.proofs.lemmas.List.Elements.{filter_more}
use Rattle.lock_command.specs.Command.{spelling}
use Rattle.lock_table.specs.declared.known_client.KnownClient.{KnownClient}
use Rattle.lock_table.specs.Carrying.{carried_client, is_among, stays_known}
use Rattle.lock_table.proofs.carry_over.carry_clients.Goals.{then-stays_known, else-stays_known}
use Rattle.lock_table.proofs.carry_over.carry_clients.Goals as goal

pub loop-at-preserved : goal.loop-at-preserved
loop-at-preserved c =
    let stays = stays_known (is_among c.args.leave.now) c.args.locks.now in
    let xs = c.args.clients.now in
    let k : KnownClient = c.index-clients-at.result in
    let inside : c.loop-at.at < length xs = omega (arith, c.loop-at-test.true) in
    let here : get_or xs c.loop-at.at k ≡ k = sym c.index-clients-at.is in
    let more : filter stays (take (c.loop-at.at + 1) xs) ≡ filter stays (take c.loop-at.at xs) ++ cond (stays k) (k ∷ []) [] = filter_more stays xs c.loop-at.at k inside ∙ ap (λ (o : KnownClient). filter stays (take c.loop-at.at xs) ++ cond (stays o) (o ∷ []) []) here in
    let bytes : KnownClient → List ℕ = λ o. spelling (carried_client o) in
    let before = filter stays (take c.loop-at.at xs) in
    elim c.if-stays_known.branch [
      | then-stays_known w ↦
          let is : stays k ≡ true = search rules in
          let next : map bytes (filter stays (take (c.loop-at.at + 1) xs)) ≡ map bytes before ++ bytes k ∷ [] = ap (map bytes) (more ∙ ap (λ b. before ++ cond b (k ∷ []) []) is) ∙ map-append bytes before (k ∷ []) in
          let pushed : w.push.new.self.items ≡ c.loop-at.into.items ++ w.client_value.result ∷ [] = search rules in
          let items : c.if-stays_known.into.items ≡ w.push.new.self.items = search rules in
          record {
            commands =
                items
                ∙ pushed
                ∙ (λ i. c.loop-at.invariant.commands i ++ w.client_value.ensures i ∷ [])
                ∙ append_assoc c.args.into.now.items (map bytes before) (bytes k ∷ [])
                ∙ ap (λ l. c.args.into.now.items ++ l) (sym next);
            few = search rules;
            room = search rules;
          }
      | else-stays_known w ↦
          let is : stays k ≡ false = search rules in
          let next : filter stays (take (c.loop-at.at + 1) xs) ≡ before = more ∙ ap (λ b. before ++ cond b (k ∷ []) []) is ∙ append-nil before in
          let items : c.if-stays_known.into.items ≡ c.loop-at.into.items = search rules in
          record {
            commands = items ∙ c.loop-at.invariant.commands ∙ ap (λ l. c.args.into.now.items ++ map bytes l) (sym next);
            few = search rules;
            room = search rules;
          }
    ]

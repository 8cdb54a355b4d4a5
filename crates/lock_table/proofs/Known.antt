-- A client that is known stays known until it is forgotten, and its old requests change nothing.
use Rattle.std.proofs.Common.{◌≡◌, ◌≤◌, ◌<◌, ℕ, true, false, cond, not, nat_lt, ◌&&◌, ◌==◌, List, [], ◌∷◌, Option, Some, None, refl, sym, ap, ◌∙◌, arith}
use Rattle.std.specs.List.{filter, find, fold, list_all}
use Rattle.std.proofs.lemmas.Bool.{eqb-true, eq-eqb}
use Rattle.std.proofs.lemmas.Bool.Decides.{nat_tests}
use Rattle.lock_command.specs.declared.command.Command.{Command}
use Rattle.lock_command.specs.declared.command.Action.{Action}
use Rattle.lock_command.specs.declared.command.Action.TheVariants.{Enqueue, Convert, Release, Cancel, Status, Purge, QuietPurge, Forget, CarryLock, CarryClient}
use Rattle.lock_command.specs.declared.reply.Answer.{Answer}
use Rattle.lock_table.specs.declared.known_client.KnownClient.{KnownClient}
use Rattle.lock_command.specs.Locks.{option_or}
use Rattle.lock_table.specs.Apply.{Plain, Applied, is_client, kept, keeps_none, forgotten_by, without_client, kept_after, carried_out, applied}
use Rattle.lock_table.specs.Values.{is_forgotten}
use Rattle.lock_table.specs.Carrying.{IsKnownFrom, asks_to_forget, LeaveKnown}
use Rattle.lock_table.proofs.Carrying.{unknown}
use Rattle.lock_table.proofs.Quiet.{find-append}
use Rattle.lock_table.proofs.Outcomes.{after_request}
use Rattle.lock_table.proofs.Reachable.{repeated_request, stale_request}
use Rattle.lock_table.proofs.Room.{none_of}

is_less : (m n : ℕ) → nat_lt m n ≡ true → m < n
is_less m n h = grind (arith, nat_tests, h)

is_same : (m n : ℕ) → m ≤ n → nat_lt m n ≡ false → m ≡ n
is_same m n le h = grind (arith, nat_tests, le, h)

-- an old request changes nothing
pub old_request : (t : Plain) (c : Command) (k : KnownClient) → find (is_client c.client) t.clients ≡ Some k → c.request ≤ k.request → (applied t c).table ≡ t
old_request t c k known no_later =
    elim (nat_lt c.request k.request) as (λ b. nat_lt c.request k.request ≡ b → (applied t c).table ≡ t) [
      | true ↦ λ less. ap (λ (x : Applied). x.table) (stale_request t c k known (is_less c.request k.request less))
      | false ↦ λ no. ap (λ (x : Applied). x.table) (repeated_request t c k known (is_same c.request k.request no_later no))
    ] refl

-- WHO IS KNOWN

or_none : (o : Option KnownClient) → option_or o None ≡ o
or_none None = refl
or_none (Some k) = refl

kept_own : (clients : List KnownClient) (k : KnownClient) → find (is_client k.client) (kept clients k) ≡ Some k
kept_own clients k =
    let others = filter (λ o. not (is_client k.client o)) clients in
    find-append (is_client k.client) others (k ∷ [])
    ∙ ap (λ o. option_or o (cond (k.client == k.client) (Some k) None)) (unknown k.client others (none_of k.client clients))
    ∙ ap (λ b. cond b (Some k) None) (eq-eqb k.client k.client refl)

others_find : (client other : ℕ) (clients : List KnownClient) → (other == client) ≡ false → find (is_client client) (filter (λ o. not (is_client other o)) clients) ≡ find (is_client client) clients
others_find client other [] differ = refl
others_find client other (k ∷ clients) differ =
    let tail = others_find client other clients differ in
    elim (is_client other k) as (λ b. is_client other k ≡ b → find (is_client client) (cond (not b) (k ∷ filter (λ o. not (is_client other o)) clients) (filter (λ o. not (is_client other o)) clients)) ≡ cond (is_client client k) (Some k) (find (is_client client) clients)) [
      | true ↦ λ e.
          let apart : is_client client k ≡ false = ap (λ n. n == client) (eqb-true k.client other e) ∙ differ in
          tail ∙ ap (λ b. cond b (Some k) (find (is_client client) clients)) (sym apart)
      | false ↦ λ e. ap (λ o. cond (is_client client k) (Some k) o) tail
    ] refl

kept_other : (client : ℕ) (clients : List KnownClient) (k : KnownClient) → (k.client == client) ≡ false → find (is_client client) (kept clients k) ≡ find (is_client client) clients
kept_other client clients k differ =
    find-append (is_client client) (filter (λ o. not (is_client k.client o)) clients) (k ∷ [])
    ∙ (λ i. option_or (others_find client k.client clients differ i) (cond (differ i) (Some k) None))
    ∙ or_none (find (is_client client) clients)

module _ (client request : ℕ) where
  -- where another client is forgotten, or none
  stays_without : (action : Action) (a : Answer) (clients : List KnownClient) → asks_to_forget client action ≡ false → IsKnownFrom client request clients → IsKnownFrom client request (without_client (forgotten_by action a) clients)
  stays_without (Enqueue lock name mode no_queue) a clients still was = was
  stays_without (Convert lock mode no_queue value) a clients still was = was
  stays_without (Release lock value) a clients still was = was
  stays_without (Cancel lock) a clients still was = was
  stays_without (Status lock) a clients still was = was
  stays_without (Purge host) a clients still was = was
  stays_without (QuietPurge host) a clients still was = was
  stays_without (Forget gone) a clients still was =
      elim (is_forgotten a) as (λ b. IsKnownFrom client request (without_client (cond b (Some gone) None) clients)) [
        | true ↦ (was.0, others_find client gone clients still ∙ was.1, was.2)
        | false ↦ was
      ]
  stays_without (CarryLock lock name state value) a clients still was = was
  stays_without (CarryClient reply) a clients still was = was

  stays_other : (action : Action) (clients : List KnownClient) (k : KnownClient) → (k.client == client) ≡ false → asks_to_forget client action ≡ false → IsKnownFrom client request clients → IsKnownFrom client request (kept_after action clients k)
  stays_other action clients k differ still was = stays_without action k.reply.answer _ still
      (elim (keeps_none action) as (λ b. IsKnownFrom client request (cond b clients (kept clients k))) [
        | true ↦ was
        | false ↦ (was.0, kept_other client clients k differ ∙ was.1, was.2)
      ])

  stays_own : (action : Action) (clients : List KnownClient) (k : KnownClient) → k.client ≡ client → request ≤ k.request → asks_to_forget client action ≡ false → IsKnownFrom client request clients → IsKnownFrom client request (kept_after action clients k)
  stays_own action clients k own no_lower still was = stays_without action k.reply.answer _ still
      (elim (keeps_none action) as (λ b. IsKnownFrom client request (cond b clients (kept clients k))) [
        | true ↦ was
        | false ↦ (k, ap (λ n. find (is_client n) (kept clients k)) (sym own) ∙ kept_own clients k, no_lower)
      ])

  IsKnownAfter : Applied → Type 0
  IsKnownAfter x = IsKnownFrom client request x.table.clients

  stays-applied : (t : Plain) (c : Command) → asks_to_forget client c.action ≡ false → IsKnownFrom client request t.clients → IsKnownFrom client request (applied t c).table.clients
  unfolding IsKnownAfter
  stays-applied t c still was = after_request IsKnownAfter t c (λ reply. was)
      (λ is room. elim (c.client == client) as (λ b. (c.client == client) ≡ b → IsKnownAfter (carried_out t c)) [
        | true ↦ λ own.
            let some : None ≡ Some was.0 = sym is ∙ ap (λ n. find (is_client n) t.clients) (eqb-true c.client client own) ∙ was.1 in
            let impossible : ⊥ = cc in absurd impossible
        | false ↦ λ differ. stays_other c.action t.clients _ differ still was
      ] refl)
      (λ k is later. elim (c.client == client) as (λ b. (c.client == client) ≡ b → IsKnownAfter (carried_out t c)) [
        | true ↦ λ own.
            let found : Some k ≡ Some was.0 = sym is ∙ ap (λ n. find (is_client n) t.clients) (eqb-true c.client client own) ∙ was.1 in
            let same : k ≡ was.0 = cc in
            let lower : k.request ≡ was.0.request = ap (λ (o : KnownClient). o.request) same in
            stays_own c.action t.clients _ (eqb-true c.client client own) (omega (arith, was.2, lower, later)) still was
        | false ↦ λ differ. stays_other c.action t.clients _ differ still was
      ] refl)

  first_leaves : (c : Command) (commands : List Command) → LeaveKnown client (c ∷ commands) → (asks_to_forget client c.action ≡ false) × LeaveKnown client commands
  first_leaves c commands all =
      elim (asks_to_forget client c.action) as (λ b. (not b && list_all (λ (d : Command). not (asks_to_forget client d.action)) commands) ≡ true → (b ≡ false) × LeaveKnown client commands) [
        | true ↦ λ h. let impossible : ⊥ = cc in absurd impossible
        | false ↦ λ h. (refl, h)
      ] all

  pub stays_known_from : (commands : List Command) (t : Plain) → LeaveKnown client commands → IsKnownFrom client request t.clients → IsKnownFrom client request (fold (λ u c. (applied u c).table) t commands).clients
  stays_known_from [] t all was = was
  stays_known_from (c ∷ commands) t all was =
      let parts = first_leaves c commands all in
      stays_known_from commands (applied t c).table parts.1 (stays-applied t c parts.0 was)

-- so it is after any commands that leave it
pub known_stays : (commands : List Command) (t : Plain) (client request : ℕ) → LeaveKnown client commands → IsKnownFrom client request t.clients → IsKnownFrom client request (fold (λ u c. (applied u c).table) t commands).clients
known_stays commands t client request all was = stays_known_from client request commands t all was

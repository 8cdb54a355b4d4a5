-- A cluster's record, and what its hosts told, make a race.
use Rattle.std.specs.Prelude.{◌↔◌, IsTrue}
use Rattle.std.proofs.Common.{◌≡◌, ◌<◌, ◌≤◌, ℕ, Bool, false, List, [], ◌∷◌, length, get_or, slice_get, take, Some, refl, sym, ap, subst, ◌∙◌, arith}
use Rattle.lock_command.specs.declared.command.Command.{Command}
use Rattle.lock_command.specs.declared.reply.Reply.{Reply}
use Rattle.paxos_block.specs.Shape.{Shape}
use Rattle.host.specs.Host.{learned_of, reply_after}
use Rattle.world.specs.Entry.{Filled, of_host}
use Rattle.world.specs.World.{world}
use Rattle.world.specs.Chosen.{IsAcknowledgedAt}
use Rattle.world.specs.declared.entry.Entry.{Entry}
use Rattle.cluster_tie.specs.Parts.{Placed, Own, own_of, entries}
use Rattle.cluster_tie.specs.Parts.{of_host as part_of}
use Rattle.cluster_tie.proofs.Places.{without}
use Rattle.cluster.specs.declared.receipt.Receipt.{Receipt}
use Rattle.cluster.specs.Receipts.{receipts_of}
use Rattle.cluster.specs.Operations.{IsLast}
use Rattle.cluster.specs.Record.{IsReceipt, HasReceipts, GoesBy, IsRecord}
use Rattle.cluster.specs.Seat.{host_in}
use Rattle.race.specs.Agreement.{Agree, prefix_of, AllAgree}
use Rattle.race.specs.Answers.{IsRefusedBy, IsTold, IsPlaced, IsAnswer}
use Rattle.race.specs.Bids.{bid_of, HasBid}
use Rattle.race.specs.Race.{track, HostsAgree, IsRace, AreByHost, AreTold}
use Rattle.race.specs.declared.answer.Answer.{Answer}
use Rattle.race.specs.declared.answer.Answer.TheVariants.{Acknowledged, Refused}
use Rattle.race.proofs.Lists.{last_stands}

module _ (c : Shape) (log : List Filled) (commands : List Command) where
  -- a receipt of a host's bid is placed
  placed : (h slot : ℕ) (reply : Reply) (own : Own) → own.number ≡ h → own.entries ≡ part_of own.number log → HasReceipts c log own → GoesBy c commands own
      → (r : Receipt) → IsLast r (receipts_of c own) → r.command ≡ bid_of own.number → r.slot ≡ slot → r.reply ≡ reply → HasBid own.number (entries own.entries) → IsPlaced c log commands h slot reply
  placed h slot reply own number part receipts goes r last bid at is bidden =
      let k : ℕ = length last.0 in
      let stands : slice_get (receipts_of c own) k ≡ Some r = subst (λ (l : List Receipt). slice_get l k ≡ Some r) (sym last.1) (last_stands last.0 r) in
      let command : r.command ≡ bid_of h = bid ∙ ap bid_of number in
      let it : IsReceipt c log own.number r = receipts k r stands in
      let its : entries own.entries ≡ of_host own.number log = ap entries part ∙ without 0 false own.number log in
      record {
        bid = subst (λ (n : ℕ). HasBid n (of_host n log)) number (subst (HasBid own.number) its bidden);
        place = r.place;
        acknowledged =
            subst (λ (n : ℕ). IsAcknowledgedAt c log r.place n slot (bid_of h) reply) number
            (subst (λ (s : ℕ). IsAcknowledgedAt c log r.place own.number s (bid_of h) reply) at
            (subst (λ (b : Command). IsAcknowledgedAt c log r.place own.number r.slot b reply) command
            (subst (λ (y : Reply). IsAcknowledgedAt c log r.place own.number r.slot r.command y) is it.acknowledged)));
        stands = sym (ap (slice_get commands) at) ∙ goes.placed k r stands ∙ ap (λ (b : Command). Some b) command;
        replied = sym is ∙ goes.replied k r stands ∙ ap (λ (s : ℕ). reply_after (take s commands) r.command) at ∙ ap (reply_after (take slot commands)) command;
      }

  -- what a seat tells is borne out
  answered : (h : ℕ) (own : Own) (answer : Answer) → own.number ≡ h → own.entries ≡ part_of own.number log → host_in c own ≡ (world c log).host h → HasReceipts c log own → GoesBy c commands own
      → IsTold c own answer → IsAnswer c log commands h answer
  answered h own (Acknowledged slot reply) number part host receipts goes told = placed h slot reply own number part receipts goes told.0 told.1 told.2 told.3 told.4 told.5
  answered h own (Refused cause) number part host receipts goes told = subst (IsRefusedBy cause) host told

agree_along : (a b x y : List Command) → a ≡ x → b ≡ y → Agree a b → Agree x y
agree_along a b x y first second is = subst (λ (l : List Command). Agree l y) first (subst (Agree a) second is)

module _ (kept : List Entry) (seats : List Own) (left : IsRecord track kept seats) (by_host : AreByHost seats) where
  host_is : (h : ℕ) (d : Own) → h < length seats → host_in track (get_or seats h d) ≡ (world track left.log).host h
  host_is h d few = left.hosts h d few ∙ ap (world track left.log).host (by_host h d few)

  prefix_is : (h : ℕ) (d : Own) → h < length seats → prefix_of track (get_or seats h d) ≡ learned_of ((world track left.log).host h)
  prefix_is h d few = ap learned_of (host_is h d few)

  nobody : Own
  nobody = own_of 0 []

  agree_there : AllAgree track seats → HostsAgree left.log (length seats)
  agree_there all i j one other = agree_along _ _ _ _ (prefix_is i nobody one) (prefix_is j nobody other) (all i nobody one j nobody other)

  agree_here : HostsAgree left.log (length seats) → AllAgree track seats
  agree_here all i d one j e other = agree_along _ _ _ _ (sym (prefix_is i d one)) (sym (prefix_is j e other)) (all i j one other)

  -- a host of no seat has no entry
  others : (h : ℕ) → length seats ≤ h → of_host h left.log ≡ []
  others h above = sym (without 0 false h left.log) ∙ ap entries (go (part_of h left.log) refl)
    where
      go : (own : List Placed) → part_of h left.log ≡ own → part_of h left.log ≡ []
      go [] is = is
      go (x ∷ xs) is =
          let seat = left.covers h (λ none. let no : [] ≡ x ∷ xs = sym none ∙ is in cc no) in
          let number : seat.0 ≡ h = sym (by_host seat.0 seat.1 seat.2) ∙ ap (λ (o : Own). o.number) seat.3 ∙ seat.4 in
          absurd (omega (arith, above, seat.2, number))

  pub is_race : (answers : List Answer) (agree : Bool) → AreTold track seats answers → (IsTrue agree ↔ AllAgree track seats) → IsRace (length seats) answers agree
  is_race answers agree told is = record {
    log = left.log;
    run = left.run;
    alone = others;
    commands = left.commands;
    safe = left.safe;
    no_other = left.no_other;
    each = λ h d few.
        let own : Own = get_or seats h nobody in
        answered track left.log left.commands h own (get_or answers h d) (by_host h nobody few) (left.parts h nobody few) (host_is h nobody few) (left.receipts h nobody few) (left.seats_go h nobody few) (told h nobody d few);
    agree_is = (λ yes. agree_there (is.0 yes), λ all. is.1 (agree_here all));
  }

-- so it is over a size that is the track's
pub race_is : (c : Shape) → c ≡ track → (kept : List Entry) (seats : List Own) (answers : List Answer) (agree : Bool) → IsRecord c kept seats → AreByHost seats → AreTold c seats answers
    → (IsTrue agree ↔ AllAgree c seats) → IsRace (length seats) answers agree
race_is c same kept seats answers agree left by_host told is =
    is_race kept seats (subst (λ (s : Shape). IsRecord s kept seats) same left) by_host answers agree
    (subst (λ (s : Shape). AreTold s seats answers) same told) (subst (λ (s : Shape). IsTrue agree ↔ AllAgree s seats) same is)

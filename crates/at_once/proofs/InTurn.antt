-- Two hosts that work in turn do so at once, so what they acknowledge goes by one log.
use Rattle.std.specs.Prelude.{slice_get, filter, replicate, Result, Ok, Err, IfOk}
use Rattle.std.proofs.Common.{ℕ, zero, suc, ◌≤◌, arith, ◌≡◌, ◌≢◌, ◌==◌, Bool, true, false, true≢false, cond, Option, Some, None, List, [], ◌∷◌, ◌++◌, length, refl, sym, subst, ap, ◌∙◌, inl, inr, append-nil}
use Rattle.std.proofs.lemmas.Bool.{cases_Bool, eqb-true, eq-eqb}
use Rattle.std.proofs.lemmas.List.{length-replicate}
use Rattle.std.proofs.lemmas.List.Elements.{filter-append}
use Rattle.std.proofs.Math.Seq.{take-length}
use Rattle.disk.specs.Disk.{DiskState}
use Rattle.disk.specs.Simulated.{SimState, fresh_disk}
use Rattle.torn_block.specs.Layout.{cluster_version}
use Rattle.paxos_block.specs.Places.{image_length}
use Rattle.paxos_block.specs.Shape.{Shape}
use Rattle.attempt.specs.declared.refusal.Refusal.{Refusal}
use Rattle.host.specs.Host.{Operation, Submitting, Stopped}
use Rattle.lock_command.specs.declared.command.Command.{Command}
use Rattle.world.specs.Entry.{Filled, Start, Begin, Called, is_of, is_on, on_disk, of_host}
use Rattle.world.specs.World.{opening_disk}
use Rattle.dlm_images.specs.declared.disk_host.Acknowledgement.{Acknowledgement}
use Rattle.dlm_images.specs.Operations.{Made, Gave, Standing, IsAcknowledged}
use Rattle.at_once.specs.AtOnce.{Does, Serves, AreDeeds, IsAtOnce}
use Rattle.at_once.specs.Deeds.{calls, task_of, HasDone}
use Rattle.at_once.specs.Images.{HoldsNothing}
use Rattle.at_once.specs.InTurn.{Gives, IsTurn, NoTwoAtOneSlot, TurnsAgree, HasSubmitted}
use Rattle.at_once.specs.Joined.{HasCome}
use Rattle.at_once.proofs.Deeds.{starts, operates}
use Rattle.at_once.proofs.Filling.{at_once_makes_a_run}
use Rattle.at_once.proofs.Headless.{zeros_hold_nothing}
use Rattle.at_once.proofs.Joined.{deeds_are_joined}
use Rattle.at_once.proofs.Serving.{each_gave_alone, giving_serves, simulated_steps, set_there}

-- WHOSE THEY ARE

module _ {A : Type 0} (test : A → Bool) where
  first_stays : (x : A) (xs : List A) → test x ≡ true → filter test (x ∷ xs) ≡ x ∷ filter test xs
  first_stays x xs is = ap (λ (b : Bool). cond b (x ∷ filter test xs) (filter test xs)) is

  first_goes : (x : A) (xs : List A) → test x ≡ false → filter test (x ∷ xs) ≡ filter test xs
  first_goes x xs is = ap (λ (b : Bool). cond b (x ∷ filter test xs) (filter test xs)) is

-- a host's turn, entry by entry
abbrev turn : ℕ → Operation → ℕ → List Made → List Filled
turn h operation tries made = Start h ∷ Begin h (task_of operation tries) ∷ calls h made

own_calls : (j h : ℕ) (made : List Made) → (h == j) ≡ true → of_host j (calls h made) ≡ calls h made
own_calls j h [] is = refl
own_calls j h (x ∷ xs) is =
    let e = Called h x.disk x.call x.answer [] in
    first_stays (is_of j) e (calls h xs) is ∙ ap (λ (l : List Filled). e ∷ l) (own_calls j h xs is)

other_calls : (j h : ℕ) (made : List Made) → (h == j) ≡ false → of_host j (calls h made) ≡ []
other_calls j h [] off = refl
other_calls j h (x ∷ xs) off = first_goes (is_of j) (Called h x.disk x.call x.answer []) (calls h xs) off ∙ other_calls j h xs off

own_turn : (j h : ℕ) (operation : Operation) (tries : ℕ) (made : List Made) → (h == j) ≡ true → of_host j (turn h operation tries made) ≡ turn h operation tries made
own_turn j h operation tries made is =
    let e = Begin h (task_of operation tries) in
    first_stays (is_of j) (Start h) (e ∷ calls h made) is
    ∙ ap (λ (l : List Filled). Start h ∷ l) (first_stays (is_of j) e (calls h made) is ∙ ap (λ (l : List Filled). e ∷ l) (own_calls j h made is))

other_turn : (j h : ℕ) (operation : Operation) (tries : ℕ) (made : List Made) → (h == j) ≡ false → of_host j (turn h operation tries made) ≡ []
other_turn j h operation tries made off =
    let e = Begin h (task_of operation tries) in
    first_goes (is_of j) (Start h) (e ∷ calls h made) off ∙ first_goes (is_of j) e (calls h made) off ∙ other_calls j h made off

turn_on : (k h : ℕ) (operation : Operation) (tries : ℕ) (made : List Made) → on_disk k (turn h operation tries made) ≡ on_disk k (calls h made)
turn_on k h operation tries made =
    let e = Begin h (task_of operation tries) in
    first_goes (is_on k) (Start h) (e ∷ calls h made) refl ∙ first_goes (is_on k) e (calls h made) refl

-- where there is no disk no call was made
record IsNowhere (k h : ℕ) (made : List Made) (new : List SimState) : Type 0 where
  calls_on : on_disk k (calls h made) ≡ []
  none : slice_get new k ≡ None

nowhere : (k h : ℕ) (made : List Made) (old new : List SimState) → Gave Gives old made new → slice_get old k ≡ None → IsNowhere k h made new
nowhere k h [] old new gave none = record { calls_on = refl; none = ap (λ (l : List SimState). slice_get l k) gave ∙ none }
nowhere k h (x ∷ xs) old new gave none =
    let one = gave.1 in
    elim (cases_Bool (x.disk == k)) [
      | inl same ↦ absurd (let both : Some one.before ≡ None = sym one.is ∙ ap (slice_get old) (eqb-true x.disk k same) ∙ none in cc)
      | inr off ↦
          let gone : slice_get gave.0 k ≡ None = ap (λ (l : List SimState). slice_get l k) one.others ∙ set_there old x.disk k one.after (λ e. true≢false (sym (eq-eqb x.disk k e) ∙ off)) ∙ none in
          let rest = nowhere k h xs gave.0 new gave.2 gone in
          record { calls_on = first_goes (is_on k) (Called h x.disk x.call x.answer []) (calls h xs) off ∙ rest.calls_on; none = rest.none }
    ]

-- AT ONCE

-- what a host does in a turn are deeds
calls_deeds : (h : ℕ) (made : List Made) → AreDeeds (calls h made)
calls_deeds h [] = tt
calls_deeds h (x ∷ made) = (tt, calls_deeds h made)

turn_deeds : (h : ℕ) (operation : Operation) (tries : ℕ) (made : List Made) → AreDeeds (turn h operation tries made)
turn_deeds h operation tries made = (tt, (tt, calls_deeds h made))

both_deeds : (first second : List Filled) → AreDeeds first → AreDeeds second → AreDeeds (first ++ second)
both_deeds [] second are more = more
both_deeds (e ∷ first) second are more = (are.0, both_deeds first second are.1 more)

image_of : Shape → Option SimState → DiskState
image_of c None = opening_disk c
image_of c (Some d) = d.disk

module _ (c : Shape) (g h : ℕ) (first second : Operation) (tries more : ℕ) (disks : List SimState) (left new : Standing SimState) (differ : g ≢ h)
    (blank : (k : ℕ) (d : SimState) → slice_get disks k ≡ Some d → HoldsNothing c.slots d.disk) (a : IsTurn c g first tries disks left) (b : IsTurn c h second more left.disks new) where
  abbrev one : List Filled
  one = turn g first tries a.did.made

  abbrev two : List Filled
  two = turn h second more b.did.made

  abbrev log : List Filled
  log = one ++ two

  abbrev images : ℕ → DiskState
  images k = image_of c (slice_get disks k)

  one_done : HasDone c g left.core one
  one_done = operates Gives c g (Start g ∷ []) first tries (record { core = a.old; disks = disks }) left (starts c g a.old [] a.below tt refl a.leads) a.may a.did

  two_done : HasDone c h new.core two
  two_done = operates Gives c h (Start h ∷ []) second more (record { core = b.old; disks = left.disks }) new (starts c h b.old [] b.below tt refl b.leads) b.may b.did

  other_way : (j : ℕ) → (g == j) ≡ true → (h == j) ≡ false
  other_way j is = elim (cases_Bool (h == j)) [
    | inl same ↦ absurd (differ (eqb-true g j is ∙ sym (eqb-true h j same)))
    | inr off ↦ off
  ]

  first_way : (j : ℕ) → (h == j) ≡ true → (g == j) ≡ false
  first_way j is = elim (cases_Bool (g == j)) [
    | inl same ↦ absurd (differ (eqb-true g j same ∙ sym (eqb-true h j is)))
    | inr off ↦ off
  ]

  of_one : (j : ℕ) → (g == j) ≡ true → of_host j log ≡ one
  of_one j is =
      filter-append (is_of j) one two ∙ ap (λ (l : List Filled). l ++ of_host j two) (own_turn j g first tries a.did.made is)
      ∙ ap (λ (l : List Filled). one ++ l) (other_turn j h second more b.did.made (other_way j is)) ∙ append-nil one

  of_two : (j : ℕ) → (h == j) ≡ true → of_host j log ≡ two
  of_two j is =
      filter-append (is_of j) one two ∙ ap (λ (l : List Filled). l ++ of_host j two) (other_turn j g first tries a.did.made (first_way j is))
      ∙ own_turn j h second more b.did.made is

  of_none : (j : ℕ) → (g == j) ≡ false → (h == j) ≡ false → of_host j log ≡ []
  of_none j off too =
      filter-append (is_of j) one two ∙ ap (λ (l : List Filled). l ++ of_host j two) (other_turn j g first tries a.did.made off) ∙ other_turn j h second more b.did.made too

  hosts : (j : ℕ) → Does c j Stopped (of_host j log)
  hosts j = elim (cases_Bool (g == j)) [
    | inl is ↦ subst (λ (l : List Filled). Does c j Stopped l) (sym (of_one j is)) (subst (λ (n : ℕ). Does c n Stopped one) (eqb-true g j is) one_done.does)
    | inr off ↦ elim (cases_Bool (h == j)) [
      | inl is ↦ subst (λ (l : List Filled). Does c j Stopped l) (sym (of_two j is)) (subst (λ (n : ℕ). Does c n Stopped two) (eqb-true h j is) two_done.does)
      | inr too ↦ subst (λ (l : List Filled). Does c j Stopped l) (sym (of_none j off too)) tt
    ]
  ]

  blank_by : (k : ℕ) (o : Option SimState) → slice_get disks k ≡ o → HoldsNothing c.slots (image_of c o)
  unfolding image_of
  blank_by k None is = zeros_hold_nothing c.slots
  blank_by k (Some d) is = blank k d is

  on_both : (k : ℕ) → on_disk k log ≡ on_disk k (calls g a.did.made) ++ on_disk k (calls h b.did.made)
  on_both k =
      filter-append (is_on k) one two ∙ ap (λ (l : List Filled). l ++ on_disk k two) (turn_on k g first tries a.did.made)
      ∙ ap (λ (l : List Filled). on_disk k (calls g a.did.made) ++ l) (turn_on k h second more b.did.made)

  serves_by : (k : ℕ) (o : Option SimState) → slice_get disks k ≡ o → Serves c k (image_of c o) (on_disk k (calls g a.did.made) ++ on_disk k (calls h b.did.made))
  unfolding image_of
  serves_by k None is =
      let here = nowhere k g a.did.made disks left.disks a.did.gave is in
      let there = nowhere k h b.did.made left.disks new.disks b.did.gave here.none in
      subst (λ (l : List Filled). Serves c k (opening_disk c) l) (sym (ap (λ (l : List Filled). l ++ on_disk k (calls h b.did.made)) here.calls_on ∙ there.calls_on)) tt
  serves_by k (Some d) is =
      let here = each_gave_alone Gives disks left.disks a.did.made a.did.gave k d is in
      let there = each_gave_alone Gives left.disks new.disks b.did.made b.did.gave k here.after here.is in
      let last : Serves c k here.after.disk (on_disk k (calls h b.did.made) ++ []) = giving_serves Gives (λ (s : SimState). s.disk) simulated_steps c h k here.after there.after b.did.made [] there.gave tt in
      giving_serves Gives (λ (s : SimState). s.disk) simulated_steps c g k d here.after a.did.made (on_disk k (calls h b.did.made)) here.gave
      (subst (λ (l : List Filled). Serves c k here.after.disk l) (append-nil (on_disk k (calls h b.did.made))) last)

  at_once : IsAtOnce c images log
  at_once = record {
    hosts = hosts;
    deeds = both_deeds one two (turn_deeds g first tries a.did.made) (turn_deeds h second more b.did.made);
    held = λ k. blank_by k (slice_get disks k) refl;
    disks = λ k. subst (λ (l : List Filled). Serves c k (images k) l) (sym (on_both k)) (serves_by k (slice_get disks k) refl);
  }

  one_come : HasCome c log (length log) g left.core
  one_come = subst (HasDone c g left.core) (sym (ap (of_host g) (take-length log) ∙ of_one g (eq-eqb g g refl))) one_done

  two_come : HasCome c log (length log) h new.core
  two_come = subst (HasDone c h new.core) (sym (ap (of_host h) (take-length log) ∙ of_two h (eq-eqb h h refl))) two_done

  agree : NoTwoAtOneSlot left.core new.core
  agree x y slot reply answer ack acked =
      let of = at_once_makes_a_run c images log at_once in
      let joined = deeds_are_joined c log of in
      let own = joined.acknowledged (length log) g left.core x slot reply one_come ack in
      let others = joined.acknowledged (length log) h new.core y slot answer two_come acked in
      let both : Some x ≡ Some y = sym own.0 ∙ others.0 in cc

pub turns_agree : TurnsAgree
turns_agree c g h first second tries more disks left new differ blank a b = agree c g h first second tries more disks left new differ blank a b

-- two submissions in turn
pub submitted_apart : (c : Shape) (first second : Command) (tries : ℕ) (disks between left : List SimState) (done next : Result Acknowledgement Refusal) → first.host ≢ second.host →
    ((k : ℕ) (d : SimState) → slice_get disks k ≡ Some d → HoldsNothing c.slots d.disk) → HasSubmitted c first tries disks done between → HasSubmitted c second tries between next left →
    IfOk done (λ x. IfOk next (λ y. x.slot ≡ y.slot → first ≡ second))
submitted_apart c first second tries disks between left (Err refusal) next differ blank a b = tt
submitted_apart c first second tries disks between left (Ok x) (Err refusal) differ blank a b = tt
submitted_apart c first second tries disks between left (Ok x) (Ok y) differ blank a b =
    let turn = subst (λ (ds : List SimState). IsTurn c second.host (Submitting second) tries ds b.new) a.leaves b.turn in
    λ same. turns_agree c first.host second.host (Submitting first) (Submitting second) tries tries disks a.new b.new differ blank a.turn turn first second x.slot x.reply y.reply a.acknowledged
    (subst (λ (n : ℕ). IsAcknowledged second n y.reply b.new.core.prefix) (sym same) b.acknowledged)

-- disks of zeros hold nothing, and are as large as an image
module _ (c : Shape) where
  abbrev zeros : SimState
  zeros = record { disk = fresh_disk (image_length cluster_version c.slots); failing = None; failures = 0 }

  all_same : (n k : ℕ) (d : SimState) → slice_get (replicate n zeros) k ≡ Some d → d ≡ zeros
  all_same zero k d is = absurd (cc)
  all_same (suc n) zero d is = let same : zeros ≡ d = cc in sym same
  all_same (suc n) (suc k) d is = all_same n k d is

  pub zeros_blank : (n k : ℕ) (d : SimState) → slice_get (replicate n zeros) k ≡ Some d → HoldsNothing c.slots d.disk
  zeros_blank n k d is = subst (λ (s : SimState). HoldsNothing c.slots s.disk) (sym (all_same n k d is)) (zeros_hold_nothing c.slots)

  long : length (fresh_disk (image_length cluster_version c.slots)).bytes ≡ image_length cluster_version c.slots
  unfolding fresh_disk
  long = length-replicate (image_length cluster_version c.slots) 0

  pub zeros_large : (n k : ℕ) (d : SimState) → slice_get (replicate n zeros) k ≡ Some d → image_length cluster_version c.slots ≤ length d.disk.bytes
  zeros_large n k d is = subst (λ (s : SimState). image_length cluster_version c.slots ≤ length s.disk.bytes) (sym (all_same n k d is)) (omega (arith, long))

-- What an operation leaves of a host's number, and how it was refused.
use Rattle.std.proofs.Common.{◌≡◌, ◌⊎◌, ◌+◌, ◌<◌, ℕ, List, [], ◌∷◌, ◌++◌, length, get_or, inl, inr, sym, ap, subst, ◌∙◌, arith}
use Rattle.std.proofs.lemmas.List.{length-append, get_or_default}
use Rattle.paxos_block.specs.Shape.{Shape}
use Rattle.world.specs.Entry.{Filled}
use Rattle.cluster_tie.specs.Parts.{Own, adds}
use Rattle.cluster.specs.declared.fault.HostFault.{HostFault}
use Rattle.cluster.specs.declared.fault.HostFault.TheVariants.{Refused, NoMemory, JournalFull, SeatTaken, SeatsMissing, OpenCall}
use Rattle.cluster.specs.Cluster.{GoesOn}
use Rattle.cluster.specs.Operations.{Operates, Stops, IsUnbegun, Fails}
use Rattle.cluster.specs.Seat.{host_in}
use Rattle.race.specs.Answers.{IsRefusedBy, IsTold}
use Rattle.race.specs.declared.answer.Answer.{Answer}
use Rattle.race.specs.declared.answer.Answer.TheVariants.{Refused as Unmet}
use Rattle.race.proofs.Lists.{each_push}

number_by_steps : (c : Shape) (old new : Own) → GoesOn c old new → new.number ≡ old.number
number_by_steps c old new goes = ap (λ (o : Own). o.number) goes.is

pub number_after : (c : Shape) (e : Filled) (old new : Own) → Operates c e old new → new.number ≡ old.number
number_after c e old new done = number_by_steps c (adds old done.0 e) new done.1

number_stopped : (c : Shape) (fault : HostFault) (old new : Own) → Stops c fault old new → new.number ≡ old.number
number_stopped c (Refused refusal) old new stops = number_by_steps c old new stops.0
number_stopped c NoMemory old new stops = number_by_steps c old new stops.0
number_stopped c JournalFull old new stops = number_by_steps c old new stops.0
number_stopped c OpenCall old new stops = number_by_steps c old new stops.0
number_stopped c SeatTaken old new stops = absurd stops
number_stopped c SeatsMissing old new stops = absurd stops

number_unbegun : (fault : HostFault) (old new : Own) → IsUnbegun fault old new → new.number ≡ old.number
number_unbegun (Refused refusal) old new is = absurd is
number_unbegun NoMemory old new is = ap (λ (o : Own). o.number) is
number_unbegun JournalFull old new is = ap (λ (o : Own). o.number) is
number_unbegun OpenCall old new is = absurd is
number_unbegun SeatTaken old new is = absurd is
number_unbegun SeatsMissing old new is = absurd is

pub number_after_fault : (c : Shape) (e : Filled) (fault : HostFault) (old new : Own) → Fails c e fault old new → new.number ≡ old.number
number_after_fault c e fault old new (inl is) = number_unbegun fault old new is
number_after_fault c e fault old new (inr stops) = number_stopped c fault (adds old stops.0 e) new stops.1

pub refused_after : (c : Shape) (e : Filled) (fault : HostFault) (old new : Own) → Fails c e fault old new → IsRefusedBy fault (host_in c new)
refused_after c e (Refused refusal) old new (inl is) = absurd is
refused_after c e (Refused refusal) old new (inr stops) = stops.1.2
refused_after c e NoMemory old new fails = tt
refused_after c e JournalFull old new fails = tt
refused_after c e OpenCall old new (inl is) = absurd is
refused_after c e OpenCall old new (inr stops) = stops.1.1
refused_after c e SeatTaken old new (inl is) = absurd is
refused_after c e SeatTaken old new (inr stops) = absurd stops.1
refused_after c e SeatsMissing old new (inl is) = absurd is
refused_after c e SeatsMissing old new (inr stops) = absurd stops.1

-- an outcome that did not come tells no more than its seat does
told_or_missing : (c : Shape) (own : Own) (given answer : Answer) → (answer ≡ given) ⊎ (answer ≡ Unmet NoMemory) → IsTold c own given → IsTold c own answer
told_or_missing c own given answer (inl is) told = subst (IsTold c own) (sym is) told
told_or_missing c own given answer (inr is) told = subst (IsTold c own) (sym is) tt

-- one answer more is told
pub told_more : {X : Type 0} (c : Shape) (seat : X → Own) (answer : X → Answer) (racers : List X) (answers : List Answer) (k : ℕ) (x : X) (a : Answer)
    → ((i : ℕ) (d : X) → i < length racers → IsTold c (seat (get_or racers i d)) (answer (get_or racers i d)))
    → k < length racers → length answers ≡ k → x ≡ get_or racers k x → (a ≡ answer x) ⊎ (a ≡ Unmet NoMemory)
    → ((i : ℕ) (d : X) (e : Answer) → i < k → IsTold c (seat (get_or racers i d)) (get_or answers i e))
    → (i : ℕ) (d : X) (e : Answer) → i < k + 1 → IsTold c (seat (get_or racers i d)) (get_or (answers ++ a ∷ []) i e)
told_more {X} c seat answer racers answers k x a each few long is given before i d e less =
    let P : ℕ → Answer → Type 0 = λ n b. (y : X) → IsTold c (seat (get_or racers n y)) b in
    let earlier : (n : ℕ) (b : Answer) → n < length answers → P n (get_or answers n b) = λ n b below y. before n y b (subst (λ (m : ℕ). n < m) long below) in
    let here : P k a = λ y.
    let same : get_or racers k y ≡ x = get_or_default racers k y x few ∙ sym is in
    told_or_missing c (seat (get_or racers k y)) (answer (get_or racers k y)) a (subst (λ (z : X). (a ≡ answer z) ⊎ (a ≡ Unmet NoMemory)) (sym same) given) (each k y few) in
    each_push P answers a earlier (subst (λ (n : ℕ). P n a) (sym long) here) i e (omega (arith, length-append answers (a ∷ []))) d

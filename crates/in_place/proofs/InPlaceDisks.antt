-- Images that are made endless together: what is due on each, disks one after another, and where it stops.
use Rattle.std.proofs.Common.{◌≡◌, ◌<◌, ◌+◌, ◌∙◌, ◌∷◌, [], ℕ, zero, suc, List, Option, Some, Result, Ok, Err, IfErr, IfOk, OnOk, arith, ap, get_or, length, refl, slice_get, slice_set, subst, sym}
use Rattle.std.specs.Result.{IsErrAnd}
use Rattle.std.proofs.lemmas.Option.{slice_get-get_or}
use Rattle.std.specs.Prelude.{◌↔◌}
use Rattle.disk.specs.Disk.{Device, Call, Answer}
use Rattle.disk.specs.declared.boot.Boot.{Boot}
use Rattle.disk.specs.declared.fault.ImageFault.{ImageFault}
use Rattle.disk.specs.declared.fault.ImageFault.TheVariants.{WrongHeader}
use Rattle.paxos_block.specs.declared.header.Header.{Header}
use Rattle.endless_image.specs.Headers.{IsEndlessHeader, IsRight}
use Rattle.endless_image.specs.InPlace.{IsEnding, IsUnfinished}
use Rattle.endless_image.specs.Sets.{IsSameSet}
use Rattle.endless_image.specs.Sizes.{size_of}
use Rattle.endless_image.specs.declared.header.EndlessHeader.{EndlessHeader}
use Rattle.endless_image.specs.declared.progress.Progress.{Progress}
use Rattle.endless_image.specs.declared.progress.Progress.TheVariants.{Ending, Marked, Endless}
use Rattle.folders.specs.Finishing.{HaveSize}
use Rattle.folders.specs.Formatting.{FirstBecame, HaveRoom}
use Rattle.folders.proofs.Laying.{known_more, one_more}
use Rattle.in_place.specs.InPlaceImages.{AreChanged, AreFound, AreMadeEndless, AreReady, BecameBy, IsAt, IsFound, IsNotFound, StopsAt, StopsChanging, StopsLooking, StopsMaking, StopsReadying, TellsSurely, becomes, due_of}
use Rattle.in_place.specs.declared.in_place_disk.Due.{Due}
use Rattle.in_place.specs.declared.in_place_disk.MakeFault.{MakeFault}
use Rattle.in_place.specs.declared.in_place_disk.MakeFault.TheVariants.{Refused, NotReady, NotMade}

-- ONE IMAGE

-- what is found of an image is how far it is
pub found_at : (disk long : ℕ) (bytes : List ℕ) (result : Option Progress) → ((header : Header) → (result ≡ Some (Ending header)) ↔ IsEnding disk long bytes header)
    → ((header : EndlessHeader) → (result ≡ Some (Marked header)) ↔ IsUnfinished disk long bytes header) → ((header : EndlessHeader) → (result ≡ Some (Endless header)) ↔ IsRight disk long bytes header)
    → (progress : Progress) → (result ≡ Some progress) ↔ IsAt disk long bytes progress
found_at disk long bytes result ending marked endless (Ending header) = ending header
found_at disk long bytes result ending marked endless (Marked header) = marked header
found_at disk long bytes result ending marked endless (Endless header) = endless header

-- in the end it has a header that it may have
pub becomes_right : (disk long : ℕ) (bytes : List ℕ) (progress : Progress) → IsAt disk long bytes progress → IsEndlessHeader (becomes progress)
becomes_right disk long bytes (Ending header) is =
    record { among = record { below = is.right.may_be.disk; few = is.right.may_be.disks }; slots = (is.slots, is.right.may_be.slots); epoch = omega arith }
becomes_right disk long bytes (Marked header) is = is.may_be
becomes_right disk long bytes (Endless header) is = is.may_be

-- that of its own number
pub becomes_own : (disk long : ℕ) (bytes : List ℕ) (progress : Progress) → IsAt disk long bytes progress → (becomes progress).disk ≡ disk
becomes_own disk long bytes (Ending header) is = is.right.named
becomes_own disk long bytes (Marked header) is = is.named
becomes_own disk long bytes (Endless header) is = is.named

module _ {D : Type 0} (gives : D → Call → Answer → D → Type 0) (set : EndlessHeader) (disk long : ℕ) (old new : D) (boot : Boot) (bytes : List ℕ) (same : long ≡ size_of set.slots) (told : TellsSurely gives boot.number bytes old new) where
  pub found_from : (result : Result Due ImageFault) → IfOk result (λ due. (progress : Progress) × IsAt disk long bytes progress × IsSameSet (becomes progress) set × (due ≡ due_of boot progress)) → IfOk result (λ due. IsFound gives set disk due old new)
  found_from (Ok due) is =
      record { boot = boot; bytes = bytes; progress = is.0; told = told; is_at = subst (λ (n : ℕ). IsAt disk n bytes is.0) same is.1; same = is.2; due_is = is.3 }
  found_from (Err fault) is = tt

  pub not_found_from : (result : Result Due ImageFault) → IfErr result (λ fault. (fault ≡ WrongHeader) × ((progress : Progress) → IsAt disk long bytes progress → ¬ IsSameSet (becomes progress) set)) → IfErr result (IsNotFound gives set disk old new)
  not_found_from (Ok due) is = tt
  not_found_from (Err fault) is =
      subst (IsNotFound gives set disk old new) (sym is.0)
      (boot.number, bytes, told, λ progress at. is.1 progress (subst (λ (n : ℕ). IsAt disk n bytes progress) (sym same) at))

-- DISKS ONE AFTER ANOTHER

set_there : {X : Type 0} (xs : List X) (n : ℕ) (x : X) → n < length xs → slice_get (slice_set xs n x) n ≡ Some x
set_there [] n x less = absurd (omega (arith, less))
set_there (y ∷ ys) zero x less = refl
set_there (y ∷ ys) (suc n) x less = let below : n < length ys = omega (arith, less) in set_there ys n x below

pub set_other : {X : Type 0} (xs : List X) (n k : ℕ) (x : X) → ¬ (k ≡ n) → slice_get (slice_set xs n x) k ≡ slice_get xs k
set_other [] n k x other = refl
set_other (y ∷ ys) zero zero x other = absurd (other refl)
set_other (y ∷ ys) zero (suc k) x other = refl
set_other (y ∷ ys) (suc n) zero x other = refl
set_other (y ∷ ys) (suc n) (suc k) x other = set_other ys n k x (λ e. other (ap suc e))

-- one more was looked at, and what is due on it is kept
pub one_more_due : {D : Type 0} (became : ℕ → Due → D → D → Type 0) (due : List Due) (n : ℕ) (old now : List D) (a b : D) (one : Due) → slice_get now n ≡ Some a → n < length due → became n one a b
    → FirstBecame (BecameBy became due) n old now → FirstBecame (BecameBy became (slice_set due n one)) (n + 1) old (slice_set now n b)
one_more_due {D} became due n old now a b one at less so w =
    one_more (BecameBy became (slice_set due n one)) n old now a b at (one, set_there due n one less, so) (known_more (BecameBy became due) (BecameBy became (slice_set due n one)) n old now more w)
  where
    more : (k : ℕ) (c d : D) → k < n → BecameBy became due k c d → BecameBy became (slice_set due n one) k c d
    more k c d below was = (was.0, set_other due n k one (λ e. let same : k ≡ n = e in omega (arith, below, same)) ∙ was.1, was.2)

-- one more became another one by what is due on it
pub one_more_by : {D : Type 0} (became : ℕ → Due → D → D → Type 0) (due : List Due) (n : ℕ) (old now : List D) (a b : D) (d : Due) → slice_get now n ≡ Some a → n < length due → became n (get_or due n d) a b
    → FirstBecame (BecameBy became due) n old now → FirstBecame (BecameBy became due) (n + 1) old (slice_set now n b)
one_more_by became due n old now a b d at less so w = one_more (BecameBy became due) n old now a b at (get_or due n d, slice_get-get_or due n d less, so) w

-- a disk has room for a header
pub room_for_header : {D : Type 0} (device : D → Device) (slots : ℕ) (disks : List D) → HaveSize device (size_of slots) disks → HaveRoom device 1024 disks
room_for_header device slots disks sizes k disk at = let long : (device disk).size ≡ size_of slots = sizes k disk at in omega (arith, long)

-- WHERE IT STOPS

pub stops_at : {D : Type 0} (became : ℕ → D → D → Type 0) (stops : D → D → Type 0) (n : ℕ) (old now : List D) (a b : D) → n < length now → slice_get now n ≡ Some a → stops a b → FirstBecame became n old now
    → StopsAt became stops n old (slice_set now n b)
stops_at became stops n old now a b below at came w = record { below = omega (arith, below, w.as_many); between = now; before = a; after = b; first = w; is_there = at; came = came; rest = refl }

-- by what is due on that one
pub stops_by : {D : Type 0} (became stops : ℕ → Due → D → D → Type 0) (due : List Due) (n : ℕ) (old now : List D) (a b : D) (d : Due) → n < length now → slice_get now n ≡ Some a → n < length due → stops n (get_or due n d) a b
    → FirstBecame (BecameBy became due) n old now → StopsAt (BecameBy became due) (BecameBy stops due n) n old (slice_set now n b)
stops_by became stops due n old now a b d below at less came w = stops_at (BecameBy became due) (BecameBy stops due n) n old now a b below at (get_or due n d, slice_get-get_or due n d less, came) w

-- what is told of the fault is told of the result
pub err_is : {T E : Type 0} (P : E → Type 0) (why : E) → P why → (result : Result T E) → IsErrAnd result (λ fault. fault ≡ why) → IfErr result P
err_is P why so (Ok done) ended = absurd ended
err_is P why so (Err fault) ended = subst P (sym ended) so

pub if_err_so : {T E : Type 0} (P Q : E → Type 0) → ((why : E) → P why → Q why) → (result : Result T E) → IfErr result P → IfErr result Q
if_err_so P Q so (Ok done) is = tt
if_err_so P Q so (Err why) is = so why is

pub on_ok_so : {T E : Type 0} (P Q : Type 0) → (P → Q) → (result : Result T E) → OnOk result P → OnOk result Q
on_ok_so P Q so (Ok done) is = so is
on_ok_so P Q so (Err why) is = tt

module _ {D : Type 0} (gives : D → Call → Answer → D → Type 0) (set : EndlessHeader) (old : List D) where
  pub looking_stops : (new : List D) (why : MakeFault) → StopsLooking gives set old new why → StopsMaking gives set old new why
  looking_stops new (Refused disk fault) stops = stops
  looking_stops new (NotReady disk) stops = absurd stops
  looking_stops new (NotMade disk) stops = absurd stops

  module _ (due : List Due) (looked : List D) (found : AreFound gives set due old looked) where
    pub readying_stops : (new : List D) (why : MakeFault) → StopsReadying gives set.slots due looked new why → StopsMaking gives set old new why
    readying_stops new (Refused disk fault) stops = absurd stops
    readying_stops new (NotReady disk) stops = (due, looked, found, stops)
    readying_stops new (NotMade disk) stops = absurd stops

    module _ (ready : List D) (extended : AreReady gives set.slots due looked ready) where
      pub changing_stops : (new : List D) (why : MakeFault) → StopsChanging gives due ready new why → StopsMaking gives set old new why
      changing_stops new (Refused disk fault) stops = absurd stops
      changing_stops new (NotReady disk) stops = absurd stops
      changing_stops new (NotMade disk) stops = (due, looked, ready, found, extended, stops)

      pub all_made : (new : List D) → AreChanged gives due ready new → AreMadeEndless gives set old new
      all_made new changed = record { due = due; looked = looked; ready = ready; found = found; extended = extended; changed = changed }

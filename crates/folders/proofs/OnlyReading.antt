-- What is only read: first bytes, and zeros.
use Rattle.std.proofs.Common.{◌≡◌, ◌==◌, ◌≤◌, ◌∙◌, ℕ, Bool, List, Result, Ok, Err, IfOk, IfErr, OnErr, refl, sym, inl, inr, ap, length, min, not, replicate, slice_set, subst, true, false}
use Rattle.std.specs.Str.{bytes_eq}
use Rattle.std.proofs.lemmas.Bool.{both_ways, not-true}
use Rattle.std.proofs.lemmas.Slice.Eq.{bytes_eq-Decides}
use Rattle.std.specs.List.{list_all}
use Rattle.disk.specs.Disk.{Call, Attach, Read, Answer, Booted, Told, Fault}
use Rattle.disk.specs.declared.fault.DiskFault.{DiskFault}
use Rattle.attempt.specs.Looking.{OnlyReads}
use Rattle.torn_block.specs.declared.block.TheConstants.{OPEN_GATE}
use Rattle.torn_block.specs.declared.layout.TheConstants.{HEADER_LENGTH}
use Rattle.torn_block.specs.Layout.{cluster_version}
use Rattle.paxos_block.specs.declared.header.Header.{Header}
use Rattle.paxos_block.specs.Headers.{header_saying}
use Rattle.paxos_block.specs.Places.{image_length}
use Rattle.paxos_block.specs.Saying.{zeros}
use Rattle.paxos_block.proofs.SayingLemmas.{zero_tells}
use Rattle.folders.specs.Folders.{HasToldFirst, FailsToTell}
use Rattle.folders.specs.Formatting.{MakesOnly, and_then}
use Rattle.folders.specs.Finishing.{HoldsMore, IsNeither, StopsReading, another, not_told, not_zeros}
use Rattle.folders.proofs.Laying.{one_call}

pub told_zeros : {D : Type 0} (gives : D → Call → Answer → D → Type 0) (old new : D) (boot at len : ℕ) (bytes : List ℕ) → length bytes ≡ len → list_all (λ b. b == 0) bytes ≡ true → gives old (Read boot at len) (Told bytes) new
    → gives old (Read boot at len) (Told (replicate len 0)) new
unfolding zeros
told_zeros gives old new boot at len bytes long zero gave =
    subst (λ (l : List ℕ). gives old (Read boot at len) (Told l) new) (zero_tells bytes zero ∙ ap (λ (n : ℕ). replicate n 0) long) gave

first_told : {D : Type 0} (gives : D → Call → Answer → D → Type 0) (old new : D) (bytes : List ℕ) → HasToldFirst gives old bytes new → MakesOnly gives OnlyReads old new
first_told gives old new bytes t = and_then old t.attached new (one_call gives OnlyReads old t.attached Attach tt (Booted t.boot) t.boots) (Read t.boot 0 HEADER_LENGTH) tt (Told bytes) t.tells

first_not_told : {D : Type 0} (gives : D → Call → Answer → D → Type 0) (count : ℕ) (old new : D) (fault : DiskFault) → FailsToTell gives count old fault new → MakesOnly gives OnlyReads old new
first_not_told gives count old new fault (inl gave) = one_call gives OnlyReads old new Attach tt (Fault fault) gave
first_not_told gives count old new fault (inr (boot, attached, booted, gave)) =
    and_then old attached new (one_call gives OnlyReads old attached Attach tt (Booted boot) booted) (Read boot 0 count) tt (Fault fault) gave

-- Whether the first bytes are told or not, the disk is only read.
pub asked_first : {D : Type 0} (gives : D → Call → Answer → D → Type 0) (old new : D) (size count : ℕ) → HEADER_LENGTH ≤ size → (result : Result (List ℕ) DiskFault)
    → IfOk result (λ bytes. HEADER_LENGTH ≤ size → HasToldFirst gives old bytes new) → IfErr result (λ fault. FailsToTell gives count old fault new) → MakesOnly gives OnlyReads old new
asked_first gives old new size count large (Ok bytes) told failed = first_told gives old new bytes (told large)
asked_first gives old new size count large (Err fault) told failed = first_not_told gives count old new fault failed

-- after the attach, what the reads showed is what the device holds
pub holds_more : {D : Type 0} (gives : D → Call → Answer → D → Type 0) (old attached new : D) (boot : ℕ) → gives old Attach (Booted boot) attached → (result : Result Bool DiskFault)
    → IfOk result (λ nothing. nothing ≡ false → StopsReading gives boot attached new) → IfOk result (λ nothing. nothing ≡ false → HoldsMore gives old new)
holds_more gives old attached new boot booted (Ok nothing) more = λ is. not_zeros boot attached booted (more is)
holds_more gives old attached new boot booted (Err fault) more = tt

pub holds_unread : {D : Type 0} (gives : D → Call → Answer → D → Type 0) (old attached new : D) (boot : ℕ) → gives old Attach (Booted boot) attached → (result : Result Bool DiskFault)
    → OnErr result (StopsReading gives boot attached new) → OnErr result (HoldsMore gives old new)
holds_unread gives old attached new boot booted (Ok nothing) failed = tt
holds_unread gives old attached new boot booted (Err fault) failed = not_zeros boot attached booted failed

-- An image is not found whole where its first bytes are not told,
pub told_none : {D : Type 0} (gives : D → Call → Answer → D → Type 0) (header : Header) (size : ℕ) (old new : D) → size ≡ image_length cluster_version header.slots → (result : Result (List ℕ) DiskFault)
    → ((bytes : List ℕ) → ¬ (result ≡ Ok bytes)) → IfErr result (λ fault. FailsToTell gives (min size HEADER_LENGTH) old fault new) → IsNeither gives header old new
told_none gives header size old new long (Ok bytes) none failed = absurd (none bytes refl)
told_none gives header size old new long (Err fault) none failed = not_told fault (subst (λ (n : ℕ). FailsToTell gives (min n HEADER_LENGTH) old fault new) long failed)

-- or where they are another header.
pub told_another : {D : Type 0} (gives : D → Call → Answer → D → Type 0) (header : Header) (old new : D) (bytes right : List ℕ) → HasToldFirst gives old bytes new → right ≡ header_saying cluster_version header
    → not (bytes_eq (slice_set bytes 0 OPEN_GATE) right) ≡ true → IsNeither gives header old new
told_another gives header old new bytes right told says differ =
    let opened = slice_set bytes 0 OPEN_GATE in
    another bytes told (λ is. both_ways (bytes_eq opened right) (not-true (bytes_eq opened right) differ) ((bytes_eq-Decides opened right).1 (is ∙ sym says)))

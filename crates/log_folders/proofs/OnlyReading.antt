-- Why an image is not found whole by its first bytes.
use Rattle.std.proofs.Common.{◌≡◌, ◌∙◌, ℕ, List, Result, Ok, Err, IfErr, min, not, refl, slice_set, subst, sym, true}
use Rattle.std.specs.Str.{bytes_eq}
use Rattle.std.proofs.lemmas.Bool.{both_ways, not-true}
use Rattle.std.proofs.lemmas.Slice.Eq.{bytes_eq-Decides}
use Rattle.disk.specs.Disk.{Call, Answer}
use Rattle.disk.specs.declared.fault.DiskFault.{DiskFault}
use Rattle.torn_block.specs.declared.block.TheConstants.{OPEN_GATE}
use Rattle.torn_block.specs.declared.layout.TheConstants.{HEADER_LENGTH}
use Rattle.folders.specs.Folders.{HasToldFirst, FailsToTell}
use Rattle.log_folders.specs.Finishing.{IsNeither, another, not_told}

module _ {D : Type 0} (gives : D → Call → Answer → D → Type 0) (size : ℕ) (header : List ℕ) (old new : D) where
  -- They are not told,
  pub told_none : (long : ℕ) → long ≡ size → (result : Result (List ℕ) DiskFault)
      → ((bytes : List ℕ) → ¬ (result ≡ Ok bytes)) → IfErr result (λ fault. FailsToTell gives (min long HEADER_LENGTH) old fault new) → IsNeither gives size header old new
  told_none long is (Ok bytes) none failed = absurd (none bytes refl)
  told_none long is (Err fault) none failed = not_told fault (subst (λ (n : ℕ). FailsToTell gives (min n HEADER_LENGTH) old fault new) is failed)

  -- or are another header.
  pub told_another : (bytes right : List ℕ) → HasToldFirst gives old bytes new → right ≡ header → not (bytes_eq (slice_set bytes 0 OPEN_GATE) right) ≡ true → IsNeither gives size header old new
  told_another bytes right told says differ =
      let opened = slice_set bytes 0 OPEN_GATE in
      another bytes told (λ is. both_ways (bytes_eq opened right) (not-true (bytes_eq opened right) differ) ((bytes_eq-Decides opened right).1 (is ∙ sym says)))

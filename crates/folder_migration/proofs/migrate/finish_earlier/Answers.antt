use Rattle.std.proofs.Common.{rules, ◌≡◌, ◌∙◌, ◌++◌, ℕ, List, true, length, take, drop, arith, refl, sym, ap, subst, inr}
use Rattle.std.proofs.Math.Seq.{take-append_seam}
use Rattle.disk.specs.FileStates.{FileState, FileGives}
use Rattle.folder_migration.specs.Gates.{HasOpenGate}
use Rattle.folder_migration.specs.Migrating.{file_device}
use Rattle.folder_migration.proofs.migrate.finish_earlier.Goals as goal

-- what was written back is all that is there
written_back : (n : ℕ) (new old : List FileState) → n ≡ length new → take n (new ++ drop (length new) old) ≡ new
written_back n new old is = ap (λ (m : ℕ). take m (new ++ drop (length new) old)) is ∙ take-append_seam new (drop (length new) old)

pub returns-clause-fault : goal.returns-clause-fault
returns-clause-fault g c =
    let images = c.in_ok-images.images in
    let looked = c.has_gate.new.images in
    let long : images.len ≡ length looked = omega (arith, c.has_gate.ensures.as_many, c.deref_mut.ensures.len) in
    let same = c.deref_mut-2.ensures.value ∙ written_back images.len looked images.items long in
    let open_one : c.has_gate.result ≡ true = search rules in
    inr (
      refl,
      record {
        found = c.deref_mut.result.now;
        looked = c.deref_mut-2.result.now;
        left = c.finish.new.images;
        fault = c.in-Err.field-0;
        as_many = ap length c.deref_mut.ensures.value ∙ c.in_ok-images.ensures.as_many;
        begun = subst (λ (now : List FileState). HasOpenGate FileGives file_device c.args.config c.args.cluster c.deref_mut.result.now now) (sym same) (c.has_gate.ensures.found open_one);
        stopped = c.in-Err.ensures.stopped;
      },
    )

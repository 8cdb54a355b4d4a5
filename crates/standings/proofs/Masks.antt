-- A row whose blocks are cleared host by host is the masked row.
use Rattle.std.specs.Prelude.{◌-◌, slice_index_or, ◌++◌, if◌then◌else◌, replicate, take, drop}
use Rattle.std.proofs.Common.{ℕ, ◌≡◌, ◌<◌, ◌≤◌, ◌+◌, ◌*◌, ◌∙◌, Bool, true, false, List, length, get_or, inl, inr, refl, sym, ap, arith, append_assoc, length-drop}
use Rattle.std.proofs.lemmas.Bool.{cases_lt, cond-true, cond-false}
use Rattle.std.proofs.lemmas.List.{get_or-replicate, length-take-le}
use Rattle.std.proofs.Math.Seq.{drop-drop}
use Rattle.std.proofs.lemmas.List.FromFn.{fill_by_all}
use Rattle.disk.specs.Disk.{put_at}
use Rattle.disk.proofs.CrashLemmas.{length-put, put-below, put-inside, put-above}
use Rattle.standings.specs.Epochs.{host_at}
use Rattle.standings.specs.Reading.{masked, zero_block}

-- zeros over the part of a row where a block is
pub put_zeros : (row middle : List ℕ) (at n : ℕ) → at + 256 ≤ length row → n ≡ 256 → middle ≡ replicate (length (take n (drop at row))) 0 → take at row ++ (middle ++ drop n (drop at row)) ≡ put_at row at zero_block
put_zeros row middle at n room as_long is =
    let many : length (take n (drop at row)) ≡ 256 = length-take-le n (drop at row) (omega (arith, length-drop at row)) ∙ as_long in
    let zeros : middle ≡ zero_block = is ∙ ap (λ (k : ℕ). replicate k 0) many in
    (λ i. take at row ++ (zeros i ++ (drop-drop n at row ∙ ap (λ (k : ℕ). drop (at + k) row) as_long) i)) ∙ sym (append_assoc (take at row) zero_block (drop (at + 256) row))

module _ (shown : List Bool) (old : List ℕ) where
  abbrev is_shown : ℕ → Bool
  is_shown host = slice_index_or shown host false

  -- the byte that the masked row has there
  abbrev byte_at : ℕ → ℕ
  byte_at o = if is_shown (host_at o) then slice_index_or old o 0 else 0

  -- the hosts below this one are done
  pub record Done (row : List ℕ) (host : ℕ) : Type 0 where
    pub long : length row ≡ 4096
    pub done : (o : ℕ) → o < 4096 → host_at o < host → get_or row o 0 ≡ byte_at o
    pub rest : (o : ℕ) → o < 4096 → host ≤ host_at o → get_or row o 0 ≡ get_or old o 0

  pub none_done : length old ≡ 4096 → Done old 0
  none_done long = record { long = long; done = λ o within below. absurd (omega arith); rest = λ o within from. refl }

  pub shown_done : (row : List ℕ) (host : ℕ) → Done row host → is_shown host ≡ true → Done row (host + 1)
  shown_done row host sofar is =
      record {
        long = sofar.long;
        done =
            λ o within below.
            elim (cases_lt (host_at o) host) [
              | inl before ↦ sofar.done o within before
              | inr from ↦
                  (let same : host ≡ host_at o = omega arith in
                  sofar.rest o within from ∙ sym (cond-true (is_shown (host_at o)) (slice_index_or old o 0) 0 (ap is_shown (sym same) ∙ is)))
            ];
        rest = λ o within from. sofar.rest o within (omega arith);
      }

  pub hidden_done : (row : List ℕ) (host : ℕ) → host < 16 → Done row host → is_shown host ≡ false → Done (put_at row (256 * host) zero_block) (host + 1)
  hidden_done row host some sofar is =
      let new = put_at row (256 * host) zero_block in
      let room : 256 * host + length zero_block ≤ length row = omega (arith, sofar.long) in
      record {
        long = length-put row (256 * host) zero_block room 0 ∙ sofar.long;
        done =
            λ o within below.
            elim (cases_lt (host_at o) host) [
              | inl before ↦ put-below row (256 * host) zero_block room 0 o (omega arith) ∙ sofar.done o within before
              | inr from ↦
                  (let same : host_at o ≡ host = omega arith in
                  let inside : 256 * host + (o - 256 * host) ≡ o = omega arith in
                  ap (λ (k : ℕ). get_or new k 0) (sym inside)
                  ∙ put-inside row (256 * host) zero_block room 0 (o - 256 * host) (omega arith)
                  ∙ get_or-replicate 256 (o - 256 * host) 0 0 (omega arith)
                  ∙ sym (cond-false (is_shown (host_at o)) (slice_index_or old o 0) 0 (ap is_shown same ∙ is)))
            ];
        rest = λ o within from. put-above row (256 * host) zero_block room 0 o (omega arith) ∙ sofar.rest o within (omega arith);
      }

  pub all_done : (row : List ℕ) → length old ≡ 4096 → Done row 16 → row ≡ masked is_shown old
  unfolding masked
  all_done row long sofar =
      fill_by_all byte_at row (length old) 0 (sofar.long ∙ sym long) (λ o within. sofar.done o (omega arith) (omega arith))

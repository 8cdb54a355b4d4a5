-- What happens to an image behind its header, and before the end of its last slot, happens to what hosts use of it.
use Rattle.std.proofs.Common.{◌≡◌, ◌+◌, ◌-◌, ◌≤◌, ◌<◌, ℕ, zero, suc, Bool, true, false, List, [], ◌∷◌, ◌++◌, length, take, drop, replicate, refl, sym, ap, ◌∙◌, length-append, arith}
use Rattle.std.specs.Prelude.{slice_index, slice_index_or}
use Rattle.std.proofs.lemmas.List.{length-replicate, length-take-le}
use Rattle.disk.specs.declared.fault.DiskFault.TheVariants.{Reset, Failed, Gone}
use Rattle.disk.specs.Disk.{DiskState, Call, Attach, Read, Write, Sync, Answer, Booted, Told, Done, Fault, FailureLeaves, Succeeds, Step, Crashes, Torn, written, synced}
use Rattle.disk.specs.Simulated.{fresh_disk}
use Rattle.disk.specs.Cut.{cut, HasFirst, IsInFirst}
use Rattle.disk.proofs.CutLemmas.{cut_steps, first_stay}
use Rattle.torn_block.specs.Layout.{cluster_version}
use Rattle.torn_block.specs.declared.layout.TheConstants.{HEADER_LENGTH}
use Rattle.paxos_block.specs.Places.{IsImage, image_length}
use Rattle.world.specs.World.{Tears}
use Rattle.at_once.specs.Images.{headed, headless, used, HoldsNothing, LaidOutHoldsNothing}

-- LISTS WITH A HEADER

module _ {A : Type 0} (x : A) where
  put_behind : (h at k : ℕ) (old items : List A) → h ≤ at → at ≤ k → at ≤ length old → headed h x (take at old ++ items ++ drop k old) ≡ take at (headed h x old) ++ items ++ drop k (headed h x old)
  unfolding headed
  put_behind zero at k old items behind order inside = refl
  put_behind (suc h) zero k old items behind order inside = absurd (omega (arith, behind))
  put_behind (suc h) (suc at) zero old items behind order inside = absurd (omega (arith, order))
  put_behind (suc h) (suc at) (suc k) [] items behind order inside = absurd (omega (arith, inside))
  put_behind (suc h) (suc at) (suc k) (y ∷ old) items behind order inside =
      ap (λ (l : List A). x ∷ l) (put_behind h at k old items (omega (arith, behind)) (omega (arith, order)) (omega (arith, inside)))

  drop_behind : (h at : ℕ) (old : List A) → h ≤ at → h ≤ length old → drop at (headed h x old) ≡ drop at old
  unfolding headed
  drop_behind zero at old behind has = refl
  drop_behind (suc h) zero old behind has = absurd (omega (arith, behind))
  drop_behind (suc h) (suc at) [] behind has = absurd (omega (arith, has))
  drop_behind (suc h) (suc at) (y ∷ old) behind has = drop_behind h at old (omega (arith, behind)) (omega (arith, has))

  length_headed : (h : ℕ) (old : List A) → h ≤ length old → length (headed h x old) ≡ length old
  unfolding headed
  length_headed zero old has = refl
  length_headed (suc h) [] has = absurd (omega (arith, has))
  length_headed (suc h) (y ∷ old) has = omega (arith, length_headed h old (omega (arith, has)))

  -- all of them alike
  flat_headed : (h : ℕ) (old : List A) (b : Bool) → h ≤ length old → headed h b (replicate (length old) b) ≡ replicate (length (headed h x old)) b
  unfolding headed
  flat_headed zero old b has = refl
  flat_headed (suc h) [] b has = absurd (omega (arith, has))
  flat_headed (suc h) (y ∷ old) b has = ap (λ (l : List Bool). b ∷ l) (flat_headed h old b (omega (arith, has)))

  pub same_headed : (h n : ℕ) → h ≤ n → headed h x (replicate n x) ≡ replicate n x
  unfolding headed
  same_headed zero n has = refl
  same_headed (suc h) zero has = absurd (omega (arith, has))
  same_headed (suc h) (suc n) has = ap (λ (l : List A). x ∷ l) (same_headed h n (omega (arith, has)))

  pub take_same : (n size : ℕ) → n ≤ size → take n (replicate size x) ≡ replicate n x
  take_same zero size fits = refl
  take_same (suc n) zero fits = absurd (omega (arith, fits))
  take_same (suc n) (suc size) fits = ap (λ (l : List A). x ∷ l) (take_same n size (omega (arith, fits)))

  laid_headed : (h n m : ℕ) (header : List A) → length header ≡ h → h ≤ n → n ≤ h + m → headed h x (take n (header ++ replicate m x)) ≡ replicate n x
  unfolding headed
  laid_headed zero n m [] is has fits = take_same n m (omega (arith, fits))
  laid_headed zero n m (y ∷ header) is has fits = absurd (omega (arith, is))
  laid_headed (suc h) n m [] is has fits = absurd (omega (arith, is))
  laid_headed (suc h) zero m (y ∷ header) is has fits = absurd (omega (arith, has))
  laid_headed (suc h) (suc n) m (y ∷ header) is has fits =
      ap (λ (l : List A). x ∷ l) (laid_headed h n m header (omega (arith, is)) (omega (arith, has)) (omega (arith, fits)))

  -- as long as they are said to be
  long_headed : (h n : ℕ) (old : List A) → h < n → length (headed h x (take n old)) ≡ n → n ≤ length old
  unfolding headed
  long_headed zero zero old less is = omega arith
  long_headed zero (suc n) [] less is = absurd (omega (arith, is))
  long_headed zero (suc zero) (y ∷ old) less is = omega arith
  long_headed zero (suc (suc n)) (y ∷ old) less is = omega (arith, long_headed zero (suc n) old (omega arith) (omega (arith, is)))
  long_headed (suc h) zero old less is = absurd (omega (arith, less))
  long_headed (suc h) (suc n) [] less is =
      absurd (let a = length-append (replicate (suc h) x) [] in let b = length-replicate (suc h) x in omega (arith, less, is, a, b))
  long_headed (suc h) (suc n) (y ∷ old) less is = omega (arith, long_headed h n old (omega (arith, less)) (omega (arith, is)))

take_flat : {A : Type 0} (n : ℕ) (old : List A) (b : Bool) → take n (replicate (length old) b) ≡ replicate (length (take n old)) b
take_flat zero old b = refl
take_flat (suc n) [] b = refl
take_flat {A} (suc n) (y ∷ old) b = ap (λ (l : List Bool). b ∷ l) (take_flat n old b)

same_behind : (h : ℕ) (flags : List Bool) (old new : List ℕ) → h ≤ length flags → h ≤ length old → h ≤ length new → ((k : ℕ) → slice_index_or flags k false ≡ false → slice_index new k ≡ slice_index old k)
    → (k : ℕ) → slice_index_or (headed h false flags) k false ≡ false → slice_index (headed h 0 new) k ≡ slice_index (headed h 0 old) k
unfolding headed
same_behind zero flags old new a b d same k is = same k is
same_behind (suc h) [] old new a b d same k is = absurd (omega (arith, a))
same_behind (suc h) (f ∷ flags) [] new a b d same k is = absurd (omega (arith, b))
same_behind (suc h) (f ∷ flags) (o ∷ old) [] a b d same k is = absurd (omega (arith, d))
same_behind (suc h) (f ∷ flags) (o ∷ old) (n ∷ new) a b d same zero is = refl
same_behind (suc h) (f ∷ flags) (o ∷ old) (n ∷ new) a b d same (suc k) is =
    same_behind h flags old new (omega (arith, a)) (omega (arith, b)) (omega (arith, d)) (λ j. same (suc j)) k is

pub same_taken : (n : ℕ) (flags : List Bool) (old new : List ℕ) → n ≤ length flags → n ≤ length old → n ≤ length new → ((k : ℕ) → slice_index_or flags k false ≡ false → slice_index new k ≡ slice_index old k)
    → (k : ℕ) → slice_index_or (take n flags) k false ≡ false → slice_index (take n new) k ≡ slice_index (take n old) k
same_taken zero flags old new a b d same k is = refl
same_taken (suc n) [] old new a b d same k is = absurd (omega (arith, a))
same_taken (suc n) (f ∷ flags) [] new a b d same k is = absurd (omega (arith, b))
same_taken (suc n) (f ∷ flags) (o ∷ old) [] a b d same k is = absurd (omega (arith, d))
same_taken (suc n) (f ∷ flags) (o ∷ old) (m ∷ new) a b d same zero is = same zero is
same_taken (suc n) (f ∷ flags) (o ∷ old) (m ∷ new) a b d same (suc k) is =
    same_taken n flags old new (omega (arith, a)) (omega (arith, b)) (omega (arith, d)) (λ j. same (suc j)) k is

-- DISKS

record IsLong (n : ℕ) (disk : DiskState) : Type 0 where
  bytes : length disk.bytes ≡ n
  flags : length disk.unsynced ≡ n

cut_long : (n : ℕ) (disk : DiskState) → HasFirst n disk → IsLong n (cut n disk)
cut_long n disk has = record { bytes = length-take-le n disk.bytes has.0; flags = length-take-le n disk.unsynced has.1 }

headless_written : (n : ℕ) (disk : DiskState) (at : ℕ) (from : List ℕ) → IsLong n disk → HEADER_LENGTH ≤ at → at + length from ≤ n → headless (written disk at from) ≡ written (headless disk) at from
headless_written n disk at from long behind inside =
    let flags = replicate (length from) true in
    let as_many : length flags ≡ length from = length-replicate (length from) true in
    let bytes_long = long.bytes in
    let flags_long = long.flags in
    λ i. record {
      bytes = put_behind 0 HEADER_LENGTH at (at + length from) disk.bytes from behind (omega arith) (omega (arith, bytes_long, inside)) i;
      unsynced = put_behind false HEADER_LENGTH at (at + length flags) disk.unsynced flags behind (omega arith) (omega (arith, flags_long, inside)) i;
      boot = disk.boot;
      gone = disk.gone;
    }

headless_synced : (n : ℕ) (disk : DiskState) → HEADER_LENGTH ≤ n → IsLong n disk → headless (synced disk) ≡ synced (headless disk)
headless_synced n disk reaches long i =
    record {
      bytes = headed HEADER_LENGTH 0 disk.bytes;
      unsynced = flat_headed 0 HEADER_LENGTH disk.bytes false (let l = long.bytes in omega (arith, l, reaches)) i;
      boot = disk.boot;
      gone = disk.gone;
    }

-- the call reads and writes in what hosts use
abbrev pub Lies : ℕ → Call → Type 0
Lies slots Attach = Unit {0}
Lies slots (Read boot at len) = (HEADER_LENGTH ≤ at) × (at + len ≤ image_length cluster_version slots)
Lies slots (Write boot at from) = (HEADER_LENGTH ≤ at) × (at + length from ≤ image_length cluster_version slots)
Lies slots (Sync boot) = Unit {0}

-- the same with the length as a variable
LiesIn : ℕ → Call → Type 0
LiesIn n Attach = Unit {0}
LiesIn n (Read boot at len) = (HEADER_LENGTH ≤ at) × (at + len ≤ n)
LiesIn n (Write boot at from) = (HEADER_LENGTH ≤ at) × (at + length from ≤ n)
LiesIn n (Sync boot) = Unit {0}

module _ (n : ℕ) (reaches : HEADER_LENGTH < n) where
  succeeds : (old new : DiskState) (call : Call) (answer : Answer) → IsLong n old → LiesIn n call → Succeeds call old answer new → Succeeds call (headless old) answer (headless new)
  unfolding LiesIn
  succeeds old new Attach answer long lies step = (step.0, ap headless step.1)
  succeeds old new (Read boot at len) answer long lies step =
      (step.0 ∙ ap (λ (l : List ℕ). Told (take (at + len - at) l)) (sym (drop_behind 0 HEADER_LENGTH at old.bytes lies.0 (let l = long.bytes in omega (arith, l, reaches)))), ap headless step.1)
  succeeds old new (Write boot at from) answer long lies step = (step.0, ap headless step.1 ∙ headless_written n old at from long lies.0 lies.1)
  succeeds old new (Sync boot) answer long lies step = (step.0, ap headless step.1 ∙ headless_synced n old (omega (arith, reaches)) long)

  torn : (at len : ℕ) (old new : DiskState) → IsLong n old → HEADER_LENGTH ≤ at → at + len ≤ n → Torn at len old new → Torn at len (headless old) (headless new)
  torn at len old new long behind inside t =
      record {
        left = t.left;
        as_many = t.as_many;
        leaves = ap headless t.leaves ∙ headless_written n old at t.left long behind (let l = t.as_many in omega (arith, l, inside));
      }

  fails : (old new : DiskState) (call : Call) → IsLong n old → LiesIn n call → FailureLeaves call old new → FailureLeaves call (headless old) (headless new)
  unfolding LiesIn
  fails old new Attach long lies left = ap headless left
  fails old new (Read boot at len) long lies left = ap headless left
  fails old new (Write boot at from) long lies left = torn at (length from) old new long lies.0 lies.1 left
  fails old new (Sync boot) long lies left = ap headless left

  steps : (old new : DiskState) (call : Call) (answer : Answer) → IsLong n old → LiesIn n call → Step old call answer new → Step (headless old) call answer (headless new)
  steps old new call (Booted boot) long lies step = (step.0, step.1, succeeds old new call (Booted boot) long lies step.2)
  steps old new call (Told bytes) long lies step = (step.0, step.1, succeeds old new call (Told bytes) long lies step.2)
  steps old new call Done long lies step = (step.0, step.1, succeeds old new call Done long lies step.2)
  steps old new call (Fault Reset) long lies step = (step.0, step.1, ap headless step.2)
  steps old new call (Fault Failed) long lies step = (step.0, step.1, fails old new call long lies step.2)
  steps old new call (Fault Gone) long lies step = (step.0, ap headless step.1)

  crashes : (old new : DiskState) → IsLong n old → IsLong n new → Crashes old new → Crashes (headless old) (headless new)
  crashes old new long then s =
      let a = long.bytes in
      let b = long.flags in
      let d = then.bytes in
      record {
        bytes = record {
          as_many = length_headed 0 HEADER_LENGTH new.bytes (omega (arith, d, reaches)) ∙ s.bytes.as_many ∙ sym (length_headed 0 HEADER_LENGTH old.bytes (omega (arith, a, reaches)));
          same = same_behind HEADER_LENGTH old.unsynced old.bytes new.bytes (omega (arith, b, reaches)) (omega (arith, a, reaches)) (omega (arith, d, reaches)) s.bytes.same;
        };
        unsynced = ap (headed HEADER_LENGTH false) s.unsynced ∙ flat_headed 0 HEADER_LENGTH old.bytes false (omega (arith, a, reaches));
        boot = s.boot;
        gone = s.gone;
      }

  cut_crashes : (old new : DiskState) → HasFirst n old → Crashes old new → Crashes (cut n old) (cut n new)
  cut_crashes old new has s =
      let as_many = s.bytes.as_many in
      let old_long : length (take n old.bytes) ≡ n = length-take-le n old.bytes has.0 in
      let new_long : length (take n new.bytes) ≡ n = length-take-le n new.bytes (omega (arith, as_many, has.0)) in
      record {
        bytes = record {
          as_many = new_long ∙ sym old_long;
          same = same_taken n old.unsynced old.bytes new.bytes has.1 has.0 (omega (arith, as_many, has.0)) s.bytes.same;
        };
        unsynced = ap (take n) s.unsynced ∙ take_flat n old.bytes false;
        boot = s.boot;
        gone = s.gone;
      }

  crashed_long : (old new : DiskState) → HasFirst n old → Crashes old new → HasFirst n new
  crashed_long old new has s =
      let bytes = s.bytes.as_many in
      let flags : length new.unsynced ≡ length old.bytes = ap (λ (l : List Bool). length l) s.unsynced ∙ length-replicate (length old.bytes) false in
      (omega (arith, bytes, has.0), omega (arith, flags, has.0))

-- WHAT HOSTS USE

module _ (slots : ℕ) where
  abbrev n : ℕ
  n = image_length cluster_version slots

  abbrev pub IsThere : DiskState → Type 0
  IsThere disk = HasFirst n disk

  long_enough : HEADER_LENGTH < n
  long_enough = omega arith

  in_first : (call : Call) → Lies slots call → IsInFirst n call
  in_first Attach lies = tt
  in_first (Read boot at len) lies = lies.1
  in_first (Write boot at from) lies = lies.1
  in_first (Sync boot) lies = tt

  lies_in : (call : Call) → Lies slots call → LiesIn n call
  unfolding LiesIn
  lies_in Attach lies = tt
  lies_in (Read boot at len) lies = lies
  lies_in (Write boot at from) lies = lies
  lies_in (Sync boot) lies = tt

  pub used_steps : (old new : DiskState) (call : Call) (answer : Answer) → IsThere old → Lies slots call → Step old call answer new → Step (used slots old) call answer (used slots new)
  used_steps old new call answer has lies step =
      steps n long_enough (cut n old) (cut n new) call answer (cut_long n old has) (lies_in call lies) (cut_steps n old new call answer has (in_first call lies) step)

  pub there_after : (old new : DiskState) (call : Call) (answer : Answer) → IsThere old → Lies slots call → Step old call answer new → IsThere new
  there_after old new call answer has lies step = first_stay n old new call answer has (in_first call lies) step

  -- a torn write leaves what one leaves that failed
  as_failed : (old new : DiskState) (call : Call) → Tears call old new → Step old call (Fault Failed) new
  as_failed old new Attach t = absurd t
  as_failed old new (Read boot at len) t = absurd t
  as_failed old new (Write boot at from) t = (t.0, t.1, t.2)
  as_failed old new (Sync boot) t = absurd t

  as_torn : (old new first second : DiskState) (call : Call) → Tears call first second → Step old call (Fault Failed) new → Tears call old new
  as_torn old new first second Attach t step = absurd t
  as_torn old new first second (Read boot at len) t step = absurd t
  as_torn old new first second (Write boot at from) t step = (step.0, step.1, step.2)
  as_torn old new first second (Sync boot) t step = absurd t

  pub used_tears : (old new : DiskState) (call : Call) → IsThere old → Lies slots call → Tears call old new → Tears call (used slots old) (used slots new)
  used_tears old new call has lies t = as_torn (used slots old) (used slots new) old new call t (used_steps old new call (Fault Failed) has lies (as_failed old new call t))

  pub there_torn : (old new : DiskState) (call : Call) → IsThere old → Lies slots call → Tears call old new → IsThere new
  there_torn old new call has lies t = there_after old new call (Fault Failed) has lies (as_failed old new call t)

  pub used_crashes : (old new : DiskState) → IsThere old → Crashes old new → Crashes (used slots old) (used slots new)
  used_crashes old new has s = crashes n long_enough (cut n old) (cut n new) (cut_long n old has) (cut_long n new (crashed_long n long_enough old new has s)) (cut_crashes n long_enough old new has s)

  pub there_crashed : (old new : DiskState) → IsThere old → Crashes old new → IsThere new
  there_crashed old new has s = crashed_long n long_enough old new has s

  pub there_begun : (disk shows : DiskState) → used slots disk ≡ shows → IsImage cluster_version slots shows → IsThere disk
  there_begun disk shows is image =
      let bytes : length (headed HEADER_LENGTH 0 (take n disk.bytes)) ≡ n = ap (λ (d : DiskState). length d.bytes) is ∙ image.long in
      let flags : length (headed HEADER_LENGTH false (take n disk.unsynced)) ≡ n = ap (λ (d : DiskState). length d.unsynced) is ∙ image.whole ∙ image.long in
      (long_headed 0 HEADER_LENGTH n disk.bytes long_enough bytes, long_headed false HEADER_LENGTH n disk.unsynced long_enough flags)

  -- an image of zeros is one of those
  pub zeros_hold_nothing : HoldsNothing slots (fresh_disk n)
  unfolding fresh_disk
  zeros_hold_nothing i =
      record {
        bytes = (ap (headed HEADER_LENGTH 0) (take_same 0 n n (omega arith)) ∙ same_headed 0 HEADER_LENGTH n (omega arith)) i;
        unsynced = (ap (headed HEADER_LENGTH false) (take_same false n n (omega arith)) ∙ same_headed false HEADER_LENGTH n (omega arith)) i;
        boot = 1;
        gone = false;
      }

pub laid_out_holds_nothing : LaidOutHoldsNothing
unfolding fresh_disk
laid_out_holds_nothing slots header more is i =
    let n = image_length cluster_version slots in
    let zeros = n - HEADER_LENGTH + more in
    let bytes = header ++ replicate zeros 0 in
    let long : length bytes ≡ HEADER_LENGTH + zeros = (let a = length-append header (replicate zeros 0) in let b = length-replicate {A = ℕ} zeros 0 in omega (arith, a, b, is)) in
    record {
      bytes = laid_headed 0 HEADER_LENGTH n zeros header is (omega arith) (omega arith) i;
      unsynced = (ap (headed HEADER_LENGTH false) (take_same false n (length bytes) (omega (arith, long))) ∙ same_headed false HEADER_LENGTH n (omega arith)) i;
      boot = 1;
      gone = false;
    }

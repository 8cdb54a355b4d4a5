-- Reading a disk changes nothing, and lines are printed one after another.
use Rattle.std.proofs.Common.{◌≡◌, ◌+◌, ◌∙◌, ℕ, zero, suc, Bool, true, false, List, [], ◌∷◌, ◌++◌, Option, Result, Ok, Err, get_or, slice_range, arith, sym, ap, subst, refl, IsTrue, add-zero, inl, inr}
use Rattle.std.specs.Prelude.{◌⊎◌, ◌↔◌, ◌||◌, if◌then◌else◌}
use Rattle.std.specs.List.{flat_map, range_with_len}
use Rattle.std.proofs.lemmas.List.{flat_map_more}
use Rattle.std.specs.Io.KnownBytes.{Appends}
use Rattle.std.proofs.KnownBytes.{Appends-trans, Appends-nil}
use Rattle.disk.specs.declared.fault.DiskFault.{DiskFault}
use Rattle.disk.specs.declared.fault.DiskFault.TheVariants.{Reset, Failed, Gone}
use Rattle.disk.specs.Disk.{DiskState, Answer, Read, Attach, Step, Device, Told, read_answer, attach_answer}
use Rattle.disk.specs.declared.boot.Boot.{Boot}
use Rattle.folders.specs.declared.check.Blocks.{Blocks}
use Rattle.torn_block.specs.Layout.{cluster_version}
use Rattle.paxos_block.specs.Row.{IsDamagedRow}
use Rattle.heartbeat.specs.Beat.{IsDamagedArea}
use Rattle.paxos_block.specs.Places.{area_of, row_of}
use Rattle.folders.specs.declared.check.CheckFault.{CheckFault}
use Rattle.folders.specs.declared.check.CheckFault.TheVariants.{Device as OfDevice, Output}
use Rattle.folders.specs.Damage.{line_of, line_if, area_text, row_text, rows_text, IsDamagedBelow, PrintsNothing, IsLeftInRows, IsLeftAt}
use Rattle.folders.proofs.Found.{none_below, below_more, image_is}

-- a read leaves the disk as it was
pub read_keeps : {T : Type 0} (old new : DiskState) (boot at len : ℕ) (r : Result T DiskFault) (into : List ℕ) → Step old (Read boot at len) (read_answer r into) new → new ≡ old
read_keeps old new boot at len (Ok done) into s = s.2.1
read_keeps old new boot at len (Err Reset) into s = s.2
read_keeps old new boot at len (Err Failed) into s = s.2
read_keeps old new boot at len (Err Gone) into s = s.1

-- so does an attach
pub attach_keeps : (old new : DiskState) (r : Result Boot DiskFault) → Step old Attach (attach_answer r) new → new ≡ old
attach_keeps old new (Ok boot) s = s.2.1
attach_keeps old new (Err Reset) s = s.2
attach_keeps old new (Err Failed) s = s.2
attach_keeps old new (Err Gone) s = s.1

abbrev told_bytes : List ℕ → Answer → List ℕ
told_bytes other (Told bytes) = bytes
told_bytes other answer = other

-- and one that succeeds tells the bytes of its range
pub read_tells : {T : Type 0} (old new : DiskState) (boot at len : ℕ) (done : T) (into : List ℕ) → Step old (Read boot at len) (read_answer {T = T} (Ok done) into) new → into ≡ slice_range old.bytes at (at + len)
read_tells old new boot at len done into s = ap (told_bytes []) s.2.0

-- ONE AFTER ANOTHER

range_more : (a n : ℕ) → range_with_len a (suc n) ≡ range_with_len a n ++ (a + n) ∷ []
range_more a zero = ap (λ (k : ℕ). k ∷ []) (sym (add-zero a))
range_more a (suc n) =
    let same : a + 1 + n ≡ a + suc n = omega arith in
    ap (λ (l : List ℕ). a ∷ l) (range_more (a + 1) n) ∙ ap (λ (k : ℕ). a ∷ (range_with_len (a + 1) n ++ k ∷ [])) same

-- the texts of the numbers below n + 1 are those below n, and that of n
texts_more : (text : ℕ → List ℕ) (n : ℕ) → flat_map text (range_with_len 0 n) ++ text n ≡ flat_map text (range_with_len 0 (n + 1))
texts_more text n =
    let last : n ≡ 0 + n = omega arith in
    let next : suc n ≡ n + 1 = omega arith in
    flat_map_more text [] (range_with_len 0 n) n ∙ ap (λ (k : ℕ). flat_map text (range_with_len 0 n ++ k ∷ [])) last ∙ ap (flat_map text) (sym (range_more 0 n))
    ∙ ap (λ (k : ℕ). flat_map text (range_with_len 0 k)) next

-- one text more is printed
pub one_text_more : (text : ℕ → List ℕ) (a b c : Option (List ℕ)) (n : ℕ) → Appends a b (flat_map text (range_with_len 0 n)) → Appends b c (text n) → Appends a c (flat_map text (range_with_len 0 (n + 1)))
one_text_more text a b c n before printed = subst (Appends a c) (texts_more text n) (Appends-trans a b c (flat_map text (range_with_len 0 n)) (text n) before printed)

-- a damaged block has its line
pub line_is : (disk : ℕ) (blocks : Blocks) (damaged : List Bool) (host : ℕ) → get_or damaged host false ≡ true → line_of disk blocks host ≡ line_if disk blocks damaged host
line_is disk blocks damaged host is = ap (λ (t : Bool). if t then line_of disk blocks host else []) (sym is)

-- a sound one has none, and nothing is printed
pub no_line : (b : Option (List ℕ)) (disk : ℕ) (blocks : Blocks) (damaged : List Bool) (host : ℕ) → get_or damaged host false ≡ false → Appends b b (line_if disk blocks damaged host)
no_line b disk blocks damaged host is = subst (Appends b b) (ap (λ (t : Bool). if t then line_of disk blocks host else []) (sym is)) (Appends-nil b)

-- SLOT BY SLOT

-- Before a slot: the device is the one that it was; where it tells its bytes they are as they were, what has been printed is the text of
-- the slots before, and it is known whether one of these is damaged, or something was before.
pub record Looked (known now : Device) (before after : Option (List ℕ)) (disk slot : ℕ) (first any : Bool) (old new : DiskState) : Type 0 where
  pub device : now ≡ known
  pub same : IsTrue known.tells → new ≡ old
  pub text : IsTrue known.tells → Appends before after (rows_text disk slot old.bytes)
  pub found : IsTrue known.tells → IsTrue any ↔ (IsTrue first ⊎ IsDamagedBelow slot old.bytes)

pub none_looked : (device : Device) (before : Option (List ℕ)) (disk : ℕ) (any : Bool) (old : DiskState) → Looked device device before before disk 0 any any old old
none_looked device before disk any old = record { device = refl; same = λ t. refl; text = λ t. Appends-nil before; found = λ t. none_below any old.bytes }

-- one slot more
pub one_slot_more : (device middle now : Device) (a b c : Option (List ℕ)) (disk slot : ℕ) (first any row_any : Bool) (old new newer : DiskState)
    → Looked device middle a b disk slot first any old new → now ≡ middle → (IsTrue middle.tells → newer ≡ new) → (IsTrue middle.tells → Appends b c (row_text disk new.bytes slot))
    → (IsTrue middle.tells → IsTrue row_any ↔ IsDamagedRow cluster_version (row_of cluster_version slot new.bytes))
    → Looked device now a c disk (slot + 1) first (any || row_any) old newer
one_slot_more device middle now a b c disk slot first any row_any old new newer so_far is same lined found =
    let tells : IsTrue device.tells → IsTrue middle.tells = λ t. subst (λ (d : Device). IsTrue d.tells) (sym so_far.device) t in
    record {
      device = is ∙ so_far.device;
      same = λ t. same (tells t) ∙ so_far.same t;
      text =
          λ t.
          one_text_more (row_text disk old.bytes) a b c slot (so_far.text t)
          (subst (λ (d : DiskState). Appends b c (row_text disk d.bytes slot)) (so_far.same t) (lined (tells t)));
      found =
          λ t.
          below_more old.bytes slot any row_any (so_far.found t)
          (subst (λ (d : DiskState). IsTrue row_any ↔ IsDamagedRow cluster_version (row_of cluster_version slot d.bytes)) (so_far.same t) (found (tells t)));
    }

-- WHERE THE DEVICE FAILS

-- behind the heartbeats
pub image_left : (fault : CheckFault) (a b c : Option (List ℕ)) (disk slots : ℕ) (first beats any : Bool) (bytes : List ℕ)
    → Appends a b (area_text disk bytes) → (IsTrue beats ↔ IsDamagedArea (area_of cluster_version bytes)) → IsLeftInRows fault disk slots bytes b c (first || beats) any → IsLeftAt fault disk slots bytes a c first any
image_left (Output error) a b c disk slots first beats any bytes area found rows = tt
image_left (OfDevice fault) a b c disk slots first beats any bytes area found rows =
    inr (rows.0, rows.1, record { text = Appends-trans a b c (area_text disk bytes) (rows_text disk rows.0 bytes) area rows.2; found = image_is first beats any found rows.3 })

-- or among them
pub nothing_left : (fault : CheckFault) (a b : Option (List ℕ)) (disk slots : ℕ) (any : Bool) (bytes : List ℕ) → PrintsNothing fault a b → IsLeftAt fault disk slots bytes a b any any
nothing_left (Output error) a b disk slots any bytes silent = tt
nothing_left (OfDevice fault) a b disk slots any bytes silent = inl (silent, refl)

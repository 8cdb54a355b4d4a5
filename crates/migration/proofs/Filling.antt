-- What stands while a migration goes on, and why nothing breaks it.
use Rattle.std.specs.Prelude.{slice_index}
use Rattle.std.proofs.Common.{ℕ, zero, suc, ◌+◌, ◌≤◌, ◌<◌, ◌≡◌, ◌≢◌, ◌==◌, ◌⊎◌, inl, inr, Bool, true, false, cond, Option, Some, None, List, [], ◌∷◌, ◌++◌, length, drop, map, replicate, append_assoc, refl, sym, subst, ap, ap₂, ◌∙◌, arith}
use Rattle.std.proofs.lemmas.List.{length-replicate, get_or-replicate, ext_get_or}
use Rattle.std.proofs.lemmas.Bool.{cases_lt, cond-true, eq-eqb}
use Rattle.disk.specs.Disk.{DiskState, Call, Attach, Read, Write, Sync, Answer, Booted, Told, Done, Fault, Step, written, synced, lost, success_of, done_by}
use Rattle.disk.specs.Simulated.{fresh_disk}
use Rattle.disk.specs.Steps.{WritesOn, HasShape}
use Rattle.disk.proofs.CrashLemmas.{may_leave_now, may_leave_synced}
use Rattle.disk.proofs.StepLemmas.{shape_keeps, shape_fresh, shape_written}
use Rattle.torn_block.specs.Layout.{cluster_version}
use Rattle.torn_block.specs.declared.block.TheConstants.{OPEN_GATE}
use Rattle.paxos_block.specs.Places.{image_length}
use Rattle.paxos_block.specs.Saying.{zeros}
use Rattle.migration.specs.Heard.{Progress, with_boot, given_up, answered, hears, next_in, next}
use Rattle.paxos_block.specs.Image.{Setup}
use Rattle.migration.specs.Plan.{Put, heading, blocks_from, Kind, Attaching, Putting, Syncing, Opening, Due, on, fills, filling, opening, each, call_of}
use Rattle.migration.specs.Run.{Migration, Entry, Called, Stopped, Crashed, Lost, Tears, MayHappen, with_disk, after, all_after, AllMayHappen, begun, NoneOpen}
use Rattle.migration.proofs.Puts.{puts, filled}
use Rattle.migration.proofs.Outcomes.{AllOutcomes, out_step, out_torn, out_crashed, out_lost, IsClosed, closed_bears, HasTail, tail_bears, IsGood, good_or_bad, all_with}

-- WHAT IS LEFT ON A DISK

-- writes behind the gate and syncs, of which the last is a sync
abbrev pub IsTodo : ℕ → List Kind → Type 0
IsTodo size [] = ⊥
IsTodo size (Attaching ∷ kinds) = ⊥
IsTodo size (Opening ∷ kinds) = ⊥
IsTodo size (Putting put ∷ kinds) = (1 ≤ put.0) × (put.0 + length put.1 ≤ size) × IsTodo size kinds
IsTodo size (Syncing ∷ []) = Unit {0}
IsTodo size (Syncing ∷ kind ∷ kinds) = IsTodo size (kind ∷ kinds)

-- what these write
abbrev pub writes_in : List Kind → List Put
writes_in [] = []
writes_in (Putting put ∷ kinds) = put ∷ writes_in kinds
writes_in (other ∷ kinds) = writes_in kinds

-- only gates are opened, and disks synced
abbrev pub IsOpens : Kind → Type 0
IsOpens Opening = Unit {0}
IsOpens Syncing = Unit {0}
IsOpens Attaching = ⊥
IsOpens (Putting put) = ⊥

abbrev pub OpensOnly : List Due → Type 0
OpensOnly [] = Unit {0}
OpensOnly (due ∷ rest) = IsOpens due.kind × OpensOnly rest

module _ (s : Setup) where
  abbrev pub size : ℕ
  size = image_length cluster_version s.slots

  -- a log that fits
  abbrev pub FitsImages : Type 0
  FitsImages = (1 ≤ s.disks) × ((d : ℕ) → IsTodo size (fills s d))

  -- all or nothing, by the writes
  abbrev pub IsAllOrNone : (ℕ → DiskState) → Type 0
  IsAllOrNone disk = NoneOpen s disk ⊎ ((d : ℕ) → d < s.disks → drop 1 (disk d).bytes ≡ drop 1 (filled s d))

  abbrev pub IsBlank : DiskState → Type 0
  IsBlank disk = AllOutcomes (λ bytes. bytes ≡ zeros size) disk

  abbrev pub IsFilled : ℕ → DiskState → Type 0
  IsFilled d disk = AllOutcomes (HasTail (drop 1 (filled s d))) disk

  abbrev pub IsShut : DiskState → Type 0
  IsShut disk = AllOutcomes IsClosed disk

  -- The disk that is being filled: it is blank and will be attached; or the writes that are left make its image, as long as it has not
  -- crashed since.
  pub record IsUnderWay (d : ℕ) (left : List Kind) (disk : DiskState) (booted : ℕ) : Type 0 where
    pub todo : IsTodo size left
    pub boot : booted ≤ disk.boot
    pub makes : booted ≡ disk.boot → puts disk.bytes (writes_in left) ≡ filled s d

  abbrev pub Current : ℕ → List Kind → DiskState → ℕ → Type 0
  Current d [] disk boot = ⊥
  Current d (Attaching ∷ todo) disk boot = (todo ≡ fills s d) × IsBlank disk
  Current d (kind ∷ todo) disk boot = IsUnderWay d (kind ∷ todo) disk boot

  -- the disks behind it, and then the gates
  abbrev pub later : ℕ → ℕ → List Due
  later d n = each (filling s) (suc d) n ++ each opening 0 s.disks

  pub record IsFilling (disk : ℕ → DiskState) (p : Progress) : Type 0 where
    pub d : ℕ
    pub n : ℕ
    pub todo : List Kind
    pub number : d + suc n ≡ s.disks
    pub rest : p.rest ≡ on d todo ++ later d n
    pub current : Current d todo (disk d) (p.boot d)
    pub before : (e : ℕ) → e < d → IsFilled e (disk e)
    pub behind : (e : ℕ) → d < e → IsBlank (disk e)
    pub shut : (e : ℕ) → IsShut (disk e)

  abbrev pub AllFull : (ℕ → DiskState) → Type 0
  AllFull disk = (e : ℕ) → e < s.disks → IsFilled e (disk e)

  abbrev pub AllShut : (ℕ → DiskState) → Type 0
  AllShut disk = (e : ℕ) → IsShut (disk e)

  abbrev pub Stands : (ℕ → DiskState) → Progress → Type 0
  Stands disk p = IsFilling disk p ⊎ ((OpensOnly p.rest × AllFull disk) ⊎ ((p.failed ≡ true) × (AllShut disk ⊎ AllFull disk)))

  abbrev pub AllShaped : (ℕ → DiskState) → Type 0
  AllShaped disk = (e : ℕ) → HasShape size (disk e)

  pub record Holds (w : Migration) : Type 0 where
    pub shape : AllShaped w.disk
    pub stands : Stands w.disk w.progress

  -- A CRASH, AND A LOSS

  module _ (disk : ℕ → DiskState) (p : Progress) (k : ℕ) (new : DiskState) (keeps : (P : List ℕ → Type 0) → AllOutcomes P (disk k) → AllOutcomes P new) where
    kept : (P : ℕ → List ℕ → Type 0) (e : ℕ) → AllOutcomes (P e) (disk e) → AllOutcomes (P e) (with_disk disk k new e)
    kept P e all = all_with (λ j new. AllOutcomes (P j) (disk j) → AllOutcomes (P j) new) disk k new (keeps (P k)) (λ j ne same. same) e all

    way : (d : ℕ) (todo : List Kind) (boot : ℕ) → ((disk k).boot < new.boot ⊎ ((new.boot ≡ (disk k).boot) × (new.bytes ≡ (disk k).bytes))) → IsUnderWay d todo (disk d) boot → IsUnderWay d todo (with_disk disk k new d) boot
    way d todo boot how is =
        all_with (λ j x. IsUnderWay j todo (disk j) boot → IsUnderWay j todo x boot) disk k new
        (λ was. elim how [
          | inl rose ↦ record { todo = was.todo; boot = (let b = was.boot in omega arith); makes = λ same. absurd (let b = was.boot in omega arith) }
          | inr same ↦ record { todo = was.todo; boot = (let b = was.boot in omega (arith, same.0)); makes = λ is. ap (λ (l : List ℕ). puts l (writes_in todo)) same.1 ∙ was.makes (is ∙ same.0) }
        ])
        (λ j ne was. was) d is

    current_kept : (d : ℕ) (todo : List Kind) (boot : ℕ) → ((disk k).boot < new.boot ⊎ ((new.boot ≡ (disk k).boot) × (new.bytes ≡ (disk k).bytes))) → Current d todo (disk d) boot → Current d todo (with_disk disk k new d) boot
    current_kept d [] boot how current = current
    current_kept d (Attaching ∷ todo) boot how current = (current.0, kept (λ e bytes. bytes ≡ zeros size) d current.1)
    current_kept d (Putting put ∷ todo) boot how current = way d (Putting put ∷ todo) boot how current
    current_kept d (Syncing ∷ todo) boot how current = way d (Syncing ∷ todo) boot how current
    current_kept d (Opening ∷ todo) boot how current = way d (Opening ∷ todo) boot how current

    pub kept_stands : ((disk k).boot < new.boot ⊎ ((new.boot ≡ (disk k).boot) × (new.bytes ≡ (disk k).bytes))) → Stands disk p → Stands (with_disk disk k new) p
    kept_stands how (inl f) = inl (record {
      d = f.d;
      n = f.n;
      todo = f.todo;
      number = f.number;
      rest = f.rest;
      current = current_kept f.d f.todo (p.boot f.d) how f.current;
      before = λ e below. kept (λ e. HasTail (drop 1 (filled s e))) e (f.before e below);
      behind = λ e above. kept (λ e bytes. bytes ≡ zeros size) e (f.behind e above);
      shut = λ e. kept (λ e. IsClosed) e (f.shut e);
    })
    kept_stands how (inr (inl o)) = inr (inl (o.0, λ e below. kept (λ e. HasTail (drop 1 (filled s e))) e (o.1 e below)))
    kept_stands how (inr (inr (failed, inl all))) = inr (inr (failed, inl (λ e. kept (λ e. IsClosed) e (all e))))
    kept_stands how (inr (inr (failed, inr all))) = inr (inr (failed, inr (λ e below. kept (λ e. HasTail (drop 1 (filled s e))) e (all e below))))

  -- A CALL

  here : (disk : ℕ → DiskState) (d : ℕ) (new : DiskState) → with_disk disk d new d ≡ new
  here disk d new = cond-true (d == d) new (disk d) (eq-eqb d d refl)

  record IsNextOf (p : Progress) (due : Due) (d : ℕ) (call : Call) : Type 0 where
    pub disk : d ≡ due.disk
    pub call_is : call ≡ call_of (p.boot due.disk) due.kind

  next_is : (p : Progress) (due : Due) (rest : List Due) (d : ℕ) (call : Call) → p.rest ≡ due ∷ rest → next p ≡ Some (d, call) → IsNextOf p due d call
  next_is p due rest d call is found = go p.failed (ap (λ (l : List Due). cond {A = Option (ℕ × Call)} p.failed None (next_in p l)) (sym is) ∙ found)
    where
      go : (b : Bool) → cond {A = Option (ℕ × Call)} b None (Some (due.disk, call_of (p.boot due.disk) due.kind)) ≡ Some (d, call) → IsNextOf p due d call
      go true none = absurd (cc)
      go false some =
          let pair : ◌≡◌ {A = ℕ × Call} (due.disk, call_of (p.boot due.disk) due.kind) (d, call) = cc in
          record { disk = sym (ap (λ (x : ℕ × Call). x.0) pair); call_is = sym (ap (λ (x : ℕ × Call). x.1) pair) }

  none_next : (p : Progress) (d : ℕ) (call : Call) → p.rest ≡ [] → next p ≡ Some (d, call) → ⊥
  none_next p d call is found = go p.failed (ap (λ (l : List Due). cond {A = Option (ℕ × Call)} p.failed None (next_in p l)) (sym is) ∙ found)
    where
      go : (b : Bool) → cond {A = Option (ℕ × Call)} b None None ≡ Some (d, call) → ⊥
      go true none = absurd (cc)
      go false none = absurd (cc)

  stopped_next : (p : Progress) (d : ℕ) (call : Call) → p.failed ≡ true → next p ≡ Some (d, call) → ⊥
  stopped_next p d call failed found = let both : ◌≡◌ {A = Option (ℕ × Call)} None (Some (d, call)) = ap (λ (b : Bool). cond {A = Option (ℕ × Call)} b None (next_in p p.rest)) (sym failed) ∙ found in absurd (cc)

  -- a good answer
  abbrev gone_on : Progress → Due → List Due → Answer → Progress
  gone_on p due rest answer = record { rest = rest; boot = with_boot p.boot due.disk answer; failed = false }

  hears_good : (p : Progress) (due : Due) (rest : List Due) (old : DiskState) (call : Call) → p.rest ≡ due ∷ rest → hears p (success_of old call) ≡ gone_on p due rest (success_of old call)
  hears_good p due rest old Attach is = ap (λ (l : List Due). answered p l (success_of old Attach)) is
  hears_good p due rest old (Read boot at len) is = ap (λ (l : List Due). answered p l (success_of old (Read boot at len))) is
  hears_good p due rest old (Write boot at from) is = ap (λ (l : List Due). answered p l (success_of old (Write boot at from))) is
  hears_good p due rest old (Sync boot) is = ap (λ (l : List Due). answered p l (success_of old (Sync boot))) is

  current_of : (d : ℕ) (todo : List Kind) (disk : DiskState) (boot : ℕ) → IsUnderWay d todo disk boot → Current d todo disk boot
  current_of d [] disk boot is = is.todo
  current_of d (Attaching ∷ todo) disk boot is = absurd is.todo
  current_of d (Putting put ∷ todo) disk boot is = is
  current_of d (Syncing ∷ todo) disk boot is = is
  current_of d (Opening ∷ todo) disk boot is = is

  writes_of : (ws : List Put) (kinds : List Kind) → writes_in (map Putting ws ++ kinds) ≡ ws ++ writes_in kinds
  writes_of [] kinds = refl
  writes_of (w ∷ ws) kinds = ap (λ (l : List Put). w ∷ l) (writes_of ws kinds)

  opens_on : (n d : ℕ) → OpensOnly (each opening d n)
  opens_on zero d = tt
  opens_on (suc n) d = (tt, (tt, opens_on n (suc d)))

  module _ (fits : FitsImages) (disk : ℕ → DiskState) (p : Progress) (shape : AllShaped disk) where
    -- one step further on the disk that is being filled
    module _ (f : IsFilling disk p) (new : DiskState) where
      shut_then : AllOutcomes IsClosed new → (e : ℕ) → IsShut (with_disk disk f.d new e)
      shut_then shut = all_with (λ e x. IsShut x) disk f.d new shut (λ e ne. f.shut e)

      before_then : (e : ℕ) → e < f.d → IsFilled e (with_disk disk f.d new e)
      before_then e below = all_with (λ j x. j < f.d → IsFilled j x) disk f.d new (λ low. absurd (omega arith)) (λ j ne low. f.before j low) e below

      behind_then : (e : ℕ) → f.d < e → IsBlank (with_disk disk f.d new e)
      behind_then e above = all_with (λ j x. f.d < j → IsBlank x) disk f.d new (λ high. absurd (omega arith)) (λ j ne high. f.behind j high) e above

      goes_on : (todo : List Kind) (boots : ℕ → ℕ) → AllOutcomes IsClosed new → IsUnderWay f.d todo new (boots f.d) → Stands (with_disk disk f.d new) (record { rest = on f.d todo ++ later f.d f.n; boot = boots; failed = false })
      goes_on todo boots shut is = inl (record {
        d = f.d;
        n = f.n;
        todo = todo;
        number = f.number;
        rest = refl;
        current = subst (λ (x : DiskState). Current f.d todo x (boots f.d)) (sym (here disk f.d new)) (current_of f.d todo new (boots f.d) is);
        before = before_then;
        behind = behind_then;
        shut = shut_then shut;
      })

      less_than : (j : ℕ) → j ≢ f.d → j < suc f.d → j < f.d
      less_than j ne low = elim (cases_lt j f.d) [ inl l ↦ l | inr g ↦ absurd (ne (omega arith)) ]

      full_to : AllOutcomes (HasTail (drop 1 (filled s f.d))) new → (e : ℕ) → e < suc f.d → IsFilled e (with_disk disk f.d new e)
      full_to full e below = all_with (λ j x. j < suc f.d → IsFilled j x) disk f.d new (λ low. full) (λ j ne low. f.before j (less_than j ne low)) e below

      -- the disk is full: the next one follows, or the gates
      disk_done : (boots : ℕ → ℕ) → AllOutcomes IsClosed new → AllOutcomes (HasTail (drop 1 (filled s f.d))) new → (n : ℕ) → f.n ≡ n → Stands (with_disk disk f.d new) (record { rest = later f.d n; boot = boots; failed = false })
      disk_done boots shut full zero is = inr (inl (opens_on s.disks 0, λ e below. full_to full e (let number = f.number in omega (arith, is, number))))
      disk_done boots shut full (suc m) is = inl (record {
        d = suc f.d;
        n = m;
        todo = Attaching ∷ fills s (suc f.d);
        number = (let number = f.number in omega (arith, is, number));
        rest = append_assoc (filling s (suc f.d)) (each (filling s) (suc (suc f.d)) m) (each opening 0 s.disks);
        current = (refl, behind_then (suc f.d) (omega arith));
        before = full_to full;
        behind = λ e above. behind_then e (omega arith);
        shut = shut_then shut;
      })

    -- a kind of call that leaves the gate, and lies on the disk
    abbrev IsBehind : Kind → Type 0
    IsBehind Attaching = Unit {0}
    IsBehind Syncing = Unit {0}
    IsBehind Opening = ⊥
    IsBehind (Putting put) = (1 ≤ put.0) × (put.0 + length put.1 ≤ size)

    still_shut : (d : ℕ) (kind : Kind) (boot : ℕ) (answer : Answer) (new : DiskState) → IsBehind kind → IsShut (disk d) → Step (disk d) (call_of boot kind) answer new → AllOutcomes IsClosed new
    still_shut d Attaching boot answer new behind shut step = out_step IsClosed (disk d) shut Attach answer new (shape d).0 tt step
    still_shut d Syncing boot answer new behind shut step = out_step IsClosed (disk d) shut (Sync boot) answer new (shape d).0 tt step
    still_shut d Opening boot answer new behind shut step = absurd behind
    still_shut d (Putting put) boot answer new behind shut step =
        let long = (shape d).1 in
        out_step IsClosed (disk d) shut (Write boot put.0 put.1) answer new (shape d).0 (omega (arith, behind.1, long), closed_bears put.0 (length put.1) behind.0) step

    head_behind : (d : ℕ) (kind : Kind) (todo : List Kind) (boot : ℕ) → Current d (kind ∷ todo) (disk d) boot → IsBehind kind
    head_behind d Attaching todo boot current = tt
    head_behind d Syncing todo boot current = tt
    head_behind d Opening todo boot current = current.todo
    head_behind d (Putting put) todo boot current = (current.todo.0, current.todo.1)

    -- a fault: it is given up
    failed_stands : (f : IsFilling disk p) (new : DiskState) → AllOutcomes IsClosed new → Stands (with_disk disk f.d new) (given_up p)
    failed_stands f new shut = inr (inr (refl, inl (shut_then f new shut)))

    -- a good answer
    good_attach : (f : IsFilling disk p) (todo : List Kind) → f.todo ≡ Attaching ∷ todo → Current f.d (Attaching ∷ todo) (disk f.d) (p.boot f.d)
        → Stands (with_disk disk f.d (disk f.d)) (record { rest = on f.d todo ++ later f.d f.n; boot = with_boot p.boot f.d (Booted (disk f.d).boot); failed = false })
    good_attach f todo is current =
        let boots = with_boot p.boot f.d (Booted (disk f.d).boot) in
        let booted : boots f.d ≡ (disk f.d).boot = cond-true (f.d == f.d) (disk f.d).boot (p.boot f.d) (eq-eqb f.d f.d refl) in
        let zero_now : (disk f.d).bytes ≡ zeros size = current.1 (disk f.d).bytes (may_leave_now (disk f.d)) in
        let all : puts (disk f.d).bytes (writes_in (fills s f.d)) ≡ filled s f.d = ap₂ puts zero_now (writes_of (blocks_from 0 s.log) (Syncing ∷ Putting (heading s f.d) ∷ Syncing ∷ [])) in
        goes_on f (disk f.d) todo boots (f.shut f.d)
        (record {
          todo = subst (IsTodo size) (sym current.0) (fits.1 f.d);
          boot = omega (arith, booted);
          makes = λ same. ap (λ (l : List Kind). puts (disk f.d).bytes (writes_in l)) current.0 ∙ all;
        })

    good_put : (f : IsFilling disk p) (put : Put) (todo : List Kind) → IsUnderWay f.d (Putting put ∷ todo) (disk f.d) (p.boot f.d) → (shut : AllOutcomes IsClosed (written (disk f.d) put.0 put.1))
        → Stands (with_disk disk f.d (written (disk f.d) put.0 put.1)) (record { rest = on f.d todo ++ later f.d f.n; boot = p.boot; failed = false })
    good_put f put todo is shut = goes_on f (written (disk f.d) put.0 put.1) todo p.boot shut (record { todo = is.todo.2; boot = is.boot; makes = is.makes })

    good_sync : (f : IsFilling disk p) (todo : List Kind) → IsUnderWay f.d (Syncing ∷ todo) (disk f.d) (p.boot f.d) → p.boot f.d ≡ (disk f.d).boot → (shut : AllOutcomes IsClosed (synced (disk f.d)))
        → Stands (with_disk disk f.d (synced (disk f.d))) (record { rest = on f.d todo ++ later f.d f.n; boot = p.boot; failed = false })
    good_sync f [] is same shut =
        disk_done f (synced (disk f.d)) p.boot shut (λ bytes may. ap (drop 1) (may_leave_synced (disk f.d) bytes may ∙ is.makes same)) f.n refl
    good_sync f (kind ∷ todo) is same shut = goes_on f (synced (disk f.d)) (kind ∷ todo) p.boot shut (record { todo = is.todo; boot = is.boot; makes = is.makes })

    -- an answer, good or bad
    filling_called : (f : IsFilling disk p) (d : ℕ) (call : Call) (answer : Answer) (new : DiskState) (todo : List Kind) (kind : Kind) → f.todo ≡ kind ∷ todo → Current f.d (kind ∷ todo) (disk f.d) (p.boot f.d)
        → call ≡ call_of (p.boot f.d) kind → Step (disk f.d) (call_of (p.boot f.d) kind) answer new → Stands (with_disk disk f.d new) (hears p answer)
    filling_called f d call answer new todo kind is current call_is step =
        let shut = still_shut f.d kind (p.boot f.d) answer new (head_behind f.d kind todo (p.boot f.d) current) (f.shut f.d) step in
        elim (good_or_bad (disk f.d) (call_of (p.boot f.d) kind) answer new step) [
          | inl (fault, bad) ↦ subst (λ (x : Answer). Stands (with_disk disk f.d new) (hears p x)) (sym bad) (failed_stands f new shut)
          | inr good ↦ by_kind kind todo is current shut good
        ]
      where
        finish : (kind : Kind) (todo : List Kind) → f.todo ≡ kind ∷ todo → (good : IsGood (disk f.d) (call_of (p.boot f.d) kind) answer new)
            → Stands (with_disk disk f.d (done_by (disk f.d) (call_of (p.boot f.d) kind))) (gone_on p (record { disk = f.d; kind = kind }) (on f.d todo ++ later f.d f.n) (success_of (disk f.d) (call_of (p.boot f.d) kind)))
            → Stands (with_disk disk f.d new) (hears p answer)
        finish kind todo is good stands =
            let call = call_of (p.boot f.d) kind in
            let due : Due = record { disk = f.d; kind = kind } in
            let rest : p.rest ≡ due ∷ (on f.d todo ++ later f.d f.n) = f.rest ∙ ap (λ (l : List Kind). on f.d l ++ later f.d f.n) is in
            subst (λ (x : DiskState). Stands (with_disk disk f.d x) (hears p answer)) (sym good.new_is)
            (subst (λ (x : Answer). Stands (with_disk disk f.d (done_by (disk f.d) call)) (hears p x)) (sym good.answer_is)
            (subst (Stands (with_disk disk f.d (done_by (disk f.d) call))) (sym (hears_good p due (on f.d todo ++ later f.d f.n) (disk f.d) call rest)) stands))

        by_kind : (kind : Kind) (todo : List Kind) → f.todo ≡ kind ∷ todo → Current f.d (kind ∷ todo) (disk f.d) (p.boot f.d) → AllOutcomes IsClosed new → IsGood (disk f.d) (call_of (p.boot f.d) kind) answer new
            → Stands (with_disk disk f.d new) (hears p answer)
        by_kind Attaching todo is current shut good = finish Attaching todo is good (good_attach f todo is current)
        by_kind (Putting put) todo is current shut good = finish (Putting put) todo is good (good_put f put todo current (subst (AllOutcomes IsClosed) good.new_is shut))
        by_kind Syncing todo is current shut good = finish Syncing todo is good (good_sync f todo current good.under (subst (AllOutcomes IsClosed) good.new_is shut))
        by_kind Opening todo is current shut good = absurd current.todo

    -- it lies on the disk
    head_writes : (d : ℕ) (kind : Kind) (boot : ℕ) → IsBehind kind → WritesOn (disk d) (call_of boot kind)
    head_writes d Attaching boot behind = tt
    head_writes d Syncing boot behind = tt
    head_writes d Opening boot behind = absurd behind
    head_writes d (Putting put) boot behind = let long = (shape d).1 in omega (arith, behind.1, long)

    open_writes : (d : ℕ) (kind : Kind) (boot : ℕ) → IsOpens kind → WritesOn (disk d) (call_of boot kind)
    open_writes d Opening boot opens = let long = (shape d).1 in omega (arith, long)
    open_writes d Syncing boot opens = tt
    open_writes d Attaching boot opens = absurd opens
    open_writes d (Putting put) boot opens = absurd opens

    -- a gate is opened, or a disk synced
    still_full : (d : ℕ) (kind : Kind) (boot : ℕ) (answer : Answer) (new : DiskState) → IsOpens kind → IsFilled d (disk d) → Step (disk d) (call_of boot kind) answer new → AllOutcomes (HasTail (drop 1 (filled s d))) new
    still_full d Opening boot answer new opens full step =
        out_step (HasTail (drop 1 (filled s d))) (disk d) full (Write boot 0 (OPEN_GATE ∷ [])) answer new (shape d).0 (open_writes d Opening boot opens, tail_bears (drop 1 (filled s d))) step
    still_full d Syncing boot answer new opens full step = out_step (HasTail (drop 1 (filled s d))) (disk d) full (Sync boot) answer new (shape d).0 tt step
    still_full d Attaching boot answer new opens full step = absurd opens
    still_full d (Putting put) boot answer new opens full step = absurd opens

    opens_hears : (due : Due) (rest : List Due) (answer : Answer) → p.rest ≡ due ∷ rest → OpensOnly p.rest → OpensOnly (hears p answer).rest
    opens_hears due rest (Fault fault) is opens = opens
    opens_hears due rest (Booted boot) is opens = subst (λ (l : List Due). OpensOnly (answered p l (Booted boot)).rest) (sym is) (subst OpensOnly is opens).1
    opens_hears due rest (Told bytes) is opens = subst (λ (l : List Due). OpensOnly (answered p l (Told bytes)).rest) (sym is) (subst OpensOnly is opens).1
    opens_hears due rest Done is opens = subst (λ (l : List Due). OpensOnly (answered p l Done).rest) (sym is) (subst OpensOnly is opens).1

    -- A TORN WRITE

    torn_shut : (d : ℕ) (kind : Kind) (boot : ℕ) (new : DiskState) → IsBehind kind → IsShut (disk d) → Tears (call_of boot kind) (disk d) new → AllOutcomes IsClosed new
    torn_shut d Attaching boot new behind shut torn = absurd torn
    torn_shut d Syncing boot new behind shut torn = absurd torn
    torn_shut d Opening boot new behind shut torn = absurd behind
    torn_shut d (Putting put) boot new behind shut torn =
        let long = (shape d).1 in
        out_torn IsClosed (disk d) shut boot put.0 put.1 new (shape d).0 (omega (arith, behind.1, long), closed_bears put.0 (length put.1) behind.0) torn.2

    torn_full : (d : ℕ) (kind : Kind) (boot : ℕ) (new : DiskState) → IsOpens kind → IsFilled d (disk d) → Tears (call_of boot kind) (disk d) new → AllOutcomes (HasTail (drop 1 (filled s d))) new
    torn_full d Opening boot new opens full torn =
        out_torn (HasTail (drop 1 (filled s d))) (disk d) full boot 0 (OPEN_GATE ∷ []) new (shape d).0 (open_writes d Opening boot opens, tail_bears (drop 1 (filled s d))) torn.2
    torn_full d Syncing boot new opens full torn = absurd torn
    torn_full d Attaching boot new opens full torn = absurd opens
    torn_full d (Putting put) boot new opens full torn = absurd opens

    torn_shape : (d : ℕ) (call : Call) (new : DiskState) → WritesOn (disk d) call → Tears call (disk d) new → HasShape size new
    torn_shape d Attach new writes torn = absurd torn
    torn_shape d (Read boot at len) new writes torn = absurd torn
    torn_shape d (Write boot at from) new writes torn =
        let t = torn.2 in
        subst (HasShape size) (sym t.leaves) (shape_written size (disk d) at t.left (let n = t.as_many in omega (arith, n, writes)) (shape d))
    torn_shape d (Sync boot) new writes torn = absurd torn

  -- EACH ENTRY

  module _ (fits : FitsImages) (w : Migration) (holds : Holds w) where
    -- what is next, by what stands
    todo_of : (f : IsFilling w.disk w.progress) → (kind : Kind) × (todo : List Kind) × (f.todo ≡ kind ∷ todo) × Current f.d (kind ∷ todo) (w.disk f.d) (w.progress.boot f.d)
    todo_of f = go f.todo refl f.current
      where
        go : (l : List Kind) → f.todo ≡ l → Current f.d l (w.disk f.d) (w.progress.boot f.d) → (kind : Kind) × (todo : List Kind) × (f.todo ≡ kind ∷ todo) × Current f.d (kind ∷ todo) (w.disk f.d) (w.progress.boot f.d)
        go [] is current = absurd current
        go (kind ∷ todo) is current = (kind, todo, is, current)

    -- one disk is another, of the same shape
    shaped : (d : ℕ) (new : DiskState) → HasShape size new → AllShaped (with_disk w.disk d new)
    shaped d new is = all_with (λ e x. HasShape size x) w.disk d new is (λ e ne. holds.shape e)

    made : (d : ℕ) (call : Call) (new : DiskState) (progress : Progress) → HasShape size new → Stands (with_disk w.disk d new) progress → Holds (record { disk = with_disk w.disk d new; progress = progress })
    made d call new progress shape stands = record { shape = shaped d new shape; stands = stands }

    full_then : (d : ℕ) (new : DiskState) → AllFull w.disk → (IsFilled d (w.disk d) → AllOutcomes (HasTail (drop 1 (filled s d))) new) → AllFull (with_disk w.disk d new)
    full_then d new full here e below = all_with (λ j x. j < s.disks → IsFilled j x) w.disk d new (λ low. here (full d low)) (λ j ne low. full j low) e below

    rest_is : (l : List Due) → w.progress.rest ≡ l → (d : ℕ) (call : Call) → next w.progress ≡ Some (d, call) → (due : Due) × (rest : List Due) × (w.progress.rest ≡ due ∷ rest)
    rest_is [] is d call found = absurd (none_next w.progress d call is found)
    rest_is (due ∷ rest) is d call found = (due, rest, is)

    called : (d : ℕ) (call : Call) (answer : Answer) (new : DiskState) → next w.progress ≡ Some (d, call) → Step (w.disk d) call answer new → Stands w.disk w.progress → Holds (after w (Called d call answer new))
    called d call answer new found step (inl f) =
        let (kind, todo, is, current) = todo_of f in
        let p = w.progress in
        let due : Due = record { disk = f.d; kind = kind } in
        let n = next_is p due (on f.d todo ++ later f.d f.n) d call (f.rest ∙ ap (λ (l : List Kind). on f.d l ++ later f.d f.n) is) found in
        let step' : Step (w.disk f.d) (call_of (p.boot f.d) kind) answer new = subst (λ (c : Call). Step (w.disk f.d) c answer new) n.call_is (subst (λ (e : ℕ). Step (w.disk e) call answer new) n.disk step) in
        let behind = head_behind fits w.disk p holds.shape f.d kind todo (p.boot f.d) current in
        let shape' = shape_keeps size (w.disk f.d) new (call_of (p.boot f.d) kind) answer (holds.shape f.d) (head_writes fits w.disk p holds.shape f.d kind (p.boot f.d) behind) step' in
        subst (λ (e : ℕ). Holds (after w (Called e call answer new))) (sym n.disk)
        (made f.d call new (hears p answer) shape' (filling_called fits w.disk p holds.shape f f.d (call_of (p.boot f.d) kind) answer new todo kind is current refl step'))
    called d call answer new found step (inr (inl (opens, full))) =
        let p = w.progress in
        let (due, rest, is) = rest_is p.rest refl d call found in
        let n = next_is p due rest d call is found in
        let may = (subst OpensOnly is opens).0 in
        let step' : Step (w.disk due.disk) (call_of (p.boot due.disk) due.kind) answer new = subst (λ (c : Call). Step (w.disk due.disk) c answer new) n.call_is (subst (λ (e : ℕ). Step (w.disk e) call answer new) n.disk step) in
        let shape' = shape_keeps size (w.disk due.disk) new (call_of (p.boot due.disk) due.kind) answer (holds.shape due.disk) (open_writes fits w.disk p holds.shape due.disk due.kind (p.boot due.disk) may) step' in
        subst (λ (e : ℕ). Holds (after w (Called e call answer new))) (sym n.disk)
        (made due.disk call new (hears p answer) shape'
        (inr (inl (
          opens_hears fits w.disk p holds.shape due rest answer is opens,
          full_then due.disk new full (λ here. still_full fits w.disk p holds.shape due.disk due.kind (p.boot due.disk) answer new may here step'),
        ))))
    called d call answer new found step (inr (inr (failed, all))) = absurd (stopped_next w.progress d call failed found)

    stopped : (d : ℕ) (call : Call) (new : DiskState) → next w.progress ≡ Some (d, call) → Tears call (w.disk d) new → Stands w.disk w.progress → Holds (after w (Stopped d call new))
    stopped d call new found torn (inl f) =
        let (kind, todo, is, current) = todo_of f in
        let p = w.progress in
        let due : Due = record { disk = f.d; kind = kind } in
        let n = next_is p due (on f.d todo ++ later f.d f.n) d call (f.rest ∙ ap (λ (l : List Kind). on f.d l ++ later f.d f.n) is) found in
        let torn' : Tears (call_of (p.boot f.d) kind) (w.disk f.d) new = subst (λ (c : Call). Tears c (w.disk f.d) new) n.call_is (subst (λ (e : ℕ). Tears call (w.disk e) new) n.disk torn) in
        let behind = head_behind fits w.disk p holds.shape f.d kind todo (p.boot f.d) current in
        let shape' = torn_shape fits w.disk p holds.shape f.d (call_of (p.boot f.d) kind) new (head_writes fits w.disk p holds.shape f.d kind (p.boot f.d) behind) torn' in
        subst (λ (e : ℕ). Holds (after w (Stopped e call new))) (sym n.disk)
        (made f.d call new (given_up p) shape' (failed_stands fits w.disk p holds.shape f new (torn_shut fits w.disk p holds.shape f.d kind (p.boot f.d) new behind (f.shut f.d) torn')))
    stopped d call new found torn (inr (inl (opens, full))) =
        let p = w.progress in
        let (due, rest, is) = rest_is p.rest refl d call found in
        let n = next_is p due rest d call is found in
        let may = (subst OpensOnly is opens).0 in
        let torn' : Tears (call_of (p.boot due.disk) due.kind) (w.disk due.disk) new = subst (λ (c : Call). Tears c (w.disk due.disk) new) n.call_is (subst (λ (e : ℕ). Tears call (w.disk e) new) n.disk torn) in
        let shape' = torn_shape fits w.disk p holds.shape due.disk (call_of (p.boot due.disk) due.kind) new (open_writes fits w.disk p holds.shape due.disk due.kind (p.boot due.disk) may) torn' in
        subst (λ (e : ℕ). Holds (after w (Stopped e call new))) (sym n.disk)
        (made due.disk call new (given_up p) shape' (inr (inl (opens, full_then due.disk new full (λ here. torn_full fits w.disk p holds.shape due.disk due.kind (p.boot due.disk) new may here torn')))))
    stopped d call new found torn (inr (inr (failed, all))) = absurd (stopped_next w.progress d call failed found)

    pub after_each : (e : Entry) → MayHappen w e → Holds (after w e)
    after_each (Called d call answer new) may = called d call answer new may.0 may.1 holds.stands
    after_each (Stopped d call new) may = stopped d call new may.0 may.1 holds.stands
    after_each (Crashed d new) may =
        let long = may.bytes.as_many in
        record {
          shape = shaped d new (ap length may.unsynced ∙ length-replicate (length (w.disk d).bytes) false ∙ sym long, long ∙ (holds.shape d).1);
          stands = kept_stands w.disk w.progress d new (λ P all. out_crashed P (w.disk d) all new may) (inl (let b = may.boot in omega (arith, b))) holds.stands;
        }
    after_each (Lost d) may =
        record {
          shape = shaped d (lost (w.disk d)) (holds.shape d);
          stands = kept_stands w.disk w.progress d (lost (w.disk d)) (λ P all. out_lost P (w.disk d) all) (inr (refl, refl)) holds.stands;
        }

  -- AT FIRST, AND AT EACH PLACE

  blank_at_first : IsBlank (fresh_disk size)
  unfolding fresh_disk zeros
  blank_at_first bytes may =
      let n = length-replicate {A = ℕ} size 0 in
      ext_get_or 0 bytes (replicate size 0) may.as_many (λ k within. may.same k (get_or-replicate size k false false (let m = may.as_many in omega (arith, m, n))))

  first_shut : (bytes : List ℕ) → bytes ≡ zeros size → IsClosed bytes
  unfolding zeros
  first_shut bytes is = ap (λ (l : List ℕ). slice_index l 0) is ∙ get_or-replicate size 0 0 0 (omega arith)

  pub holds_at_first : FitsImages → Holds (begun s)
  holds_at_first fits = go s.disks refl
    where
      go : (n : ℕ) → s.disks ≡ n → Holds (begun s)
      go zero is = absurd (let some = fits.0 in omega (arith, is, some))
      go (suc n) is = record {
        shape = λ e. shape_fresh size;
        stands = inl (record {
          d = 0;
          n = n;
          todo = Attaching ∷ fills s 0;
          number = omega (arith, is);
          rest = ap (λ (k : ℕ). each (filling s) 0 k ++ each opening 0 s.disks) is ∙ append_assoc (filling s 0) (each (filling s) 1 n) (each opening 0 s.disks);
          current = (refl, blank_at_first);
          before = λ e below. absurd (omega arith);
          behind = λ e above. blank_at_first;
          shut = λ e bytes may. first_shut bytes (blank_at_first bytes may);
        });
      }

  holds_after : FitsImages → (w : Migration) (es : List Entry) → Holds w → AllMayHappen w es → Holds (all_after w es)
  holds_after fits w [] holds may = holds
  holds_after fits w (e ∷ es) holds may = holds_after fits (after w e) es (after_each fits w holds e may.0) may.1

  pub all_or_nothing : (disk : ℕ → DiskState) (p : Progress) → Stands disk p → IsAllOrNone disk
  all_or_nothing disk p (inl f) = inl (λ d below formatted. let shut = f.shut d (disk d).bytes (may_leave_now (disk d)) in absurd (omega (arith, shut, formatted)))
  all_or_nothing disk p (inr (inl (opens, full))) = inr (λ d below. full d below (disk d).bytes (may_leave_now (disk d)))
  all_or_nothing disk p (inr (inr (failed, inl shuts))) = inl (λ d below formatted. let shut = shuts d (disk d).bytes (may_leave_now (disk d)) in absurd (omega (arith, shut, formatted)))
  all_or_nothing disk p (inr (inr (failed, inr full))) = inr (λ d below. full d below (disk d).bytes (may_leave_now (disk d)))

  pub migrates : FitsImages → (es : List Entry) → AllMayHappen (begun s) es → IsAllOrNone (all_after (begun s) es).disk
  migrates fits es may = let w = all_after (begun s) es in all_or_nothing w.disk w.progress (holds_after fits (begun s) es (holds_at_first fits) may).stands

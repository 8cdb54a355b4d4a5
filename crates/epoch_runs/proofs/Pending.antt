-- What a host does next, where by that its core hears a row: the host had just read that row.
use Rattle.std.proofs.Common.{ℕ, ◌≡◌, ◌==◌, Bool, true, false, cond, true≢false, Some, None, List, [], ◌∷◌, ◌++◌, ◌+◌, refl, sym, ap, subst, inl, inr}
use Rattle.std.proofs.lemmas.Bool.{eqb-true}
use Rattle.disk.specs.Disk.{Call, Attach, Read, Write, Sync, Answer, Booted, Told, Done, Fault}
use Rattle.torn_block.specs.declared.layout.TheConstants.{ROW_LENGTH}
use Rattle.paxos_block.specs.Shape.{Shape}
use Rattle.standings.specs.Epochs.{epoch_of, base_of}
use Rattle.standings.specs.Past.{Made, made, MayCallIn}
use Rattle.epoch_deeds.specs.Deeds.{Deed, Deeds, Calls, CallsIn, Starts, Begins, Stops, past_on}
use Rattle.epoch_deeds.specs.Knowing.{image_of, HasDue, ShowsRow, MayDo}
use Rattle.epoch_runs.specs.World.{Entry, Does, Breaks, BreaksIn, Ends, Crashes, Loses, Replaces, World, deeds_after, after, Crashing, GoesFrom}
use Rattle.epoch_runs.specs.Living.{is_row, Showing, showing_by, showing_next}
use Rattle.epoch_runs.proofs.Lists.{last_same, not_nil, deeds_there}

-- WHOSE AN ENTRY IS

abbrev pub is_by : ℕ → Entry → Bool
is_by h (Does g deed) = g == h
is_by h (Breaks g k call) = g == h
is_by h (BreaksIn epoch g k call) = g == h
is_by h (Ends g) = g == h
is_by h (Crashes k) = false
is_by h (Loses k) = false
is_by h (Replaces k first newest) = false

-- what others do is no deed of the host
pub deeds_of_others : (h : ℕ) (deeds : ℕ → Deeds) (entry : Entry) → is_by h entry ≡ false → deeds_after deeds entry h ≡ deeds h
deeds_of_others h deeds (Does g deed) other = deeds_there deeds g h (deeds g ++ deed ∷ []) other
deeds_of_others h deeds (Breaks g k call) other = deeds_there deeds g h [] other
deeds_of_others h deeds (BreaksIn epoch g k call) other = deeds_there deeds g h [] other
deeds_of_others h deeds (Ends g) other = deeds_there deeds g h [] other
deeds_of_others h deeds (Crashes k) other = refl
deeds_of_others h deeds (Loses k) other = refl
deeds_of_others h deeds (Replaces k first newest) other = refl

pub next_of_others : (h : ℕ) (entry : Entry) (entries : List Entry) → is_by h entry ≡ false → showing_next h (entry ∷ entries) ≡ showing_next h entries
next_of_others h (Does g deed) entries other = ap (λ (b : Bool). cond b (showing_by deed) (showing_next h entries)) other
next_of_others h (Breaks g k call) entries other = ap (λ (b : Bool). cond b None (showing_next h entries)) other
next_of_others h (BreaksIn epoch g k call) entries other = ap (λ (b : Bool). cond b None (showing_next h entries)) other
next_of_others h (Ends g) entries other = ap (λ (b : Bool). cond b None (showing_next h entries)) other
next_of_others h (Crashes k) entries other = refl
next_of_others h (Loses k) entries other = refl
next_of_others h (Replaces k first newest) entries other = refl

-- PENDING

-- So it is with a host that did this before. Its core has the read due.
pub record IsPending (c : Shape) (h : ℕ) (deeds : Deeds) (s : Showing) : Type 0 where
  pub due : HasDue c h s.epoch deeds s.disk s.call
  pub may : MayCallIn (image_of c) (epoch_of s.epoch) h (past_on s.disk deeds) s.call
  pub boot : ℕ
  pub at : ℕ
  pub len : ℕ
  pub is_read : s.call ≡ Read boot at len
  pub shows : ShowsRow c h s.epoch s.disk boot at deeds s.made s.heard

pub row_pending : (c : Shape) (h epoch k : ℕ) (deeds : Deeds) (now : Made) (call : Call) (heard : Answer) → is_row call heard ≡ true → MayDo c h deeds (CallsIn epoch k now call heard)
    → IsPending c h deeds (record { epoch = epoch; disk = k; made = now; call = call; heard = heard })
row_pending c h epoch k deeds now Attach heard is may = absurd (true≢false (sym is))
row_pending c h epoch k deeds now (Write boot at from) heard is may = absurd (true≢false (sym is))
row_pending c h epoch k deeds now (Sync boot) heard is may = absurd (true≢false (sym is))
row_pending c h epoch k deeds now (Read boot at len) (Booted b) is may = absurd (true≢false (sym is))
row_pending c h epoch k deeds now (Read boot at len) Done is may = absurd (true≢false (sym is))
row_pending c h epoch k deeds now (Read boot at len) (Fault fault) is may = absurd (true≢false (sym is))
row_pending c h epoch k deeds now (Read boot at len) (Told row) is may =
    record {
      due = may.0;
      may = may.1;
      boot = boot;
      at = at;
      len = len;
      is_read = refl;
      shows = elim may.2 [ inl shows ↦ shows | inr unseen ↦ absurd (let told = unseen.told in cc) ];
    }

pub pending_by : (c : Shape) (h : ℕ) (deeds : Deeds) (deed : Deed) (s : Showing) → showing_by deed ≡ Some s → MayDo c h deeds deed → IsPending c h deeds s
pending_by c h deeds (Calls k now) s is may = absurd (cc)
pending_by c h deeds (Starts epoch) s is may = absurd (cc)
pending_by c h deeds (Begins epoch task) s is may = absurd (cc)
pending_by c h deeds (Stops epoch) s is may = absurd (cc)
pending_by c h deeds (CallsIn epoch k now call heard) s is may = either (is_row call heard) refl is
  where
    this : Showing
    this = record { epoch = epoch; disk = k; made = now; call = call; heard = heard }

    either : (b : Bool) → is_row call heard ≡ b → cond b (Some this) None ≡ Some s → IsPending c h deeds s
    either true row one = subst (IsPending c h deeds) (let same : this ≡ s = cc in same) (row_pending c h epoch k deeds now call heard row may)
    either false row one = absurd (cc)

module _ (crashing : Crashing) (c : Shape) (h : ℕ) where
  pub pending : (entries : List Entry) (w : World) (s : Showing) → GoesFrom crashing c w entries → showing_next h entries ≡ Some s → IsPending c h (w.deeds h) s
  pending [] w s goes is = absurd (cc)
  pending (Does g deed ∷ entries) w s goes is = either (g == h) refl is (λ one. pending entries (after w (Does g deed) goes.0) s goes.2 one)
    where
      either : (b : Bool) → (g == h) ≡ b → cond b (showing_by deed) (showing_next h entries) ≡ Some s → (showing_next h entries ≡ Some s → IsPending c h ((after w (Does g deed) goes.0).deeds h) s) → IsPending c h (w.deeds h) s
      either true own one rest = subst (λ (x : ℕ). IsPending c x (w.deeds x) s) (eqb-true g h own) (pending_by c g (w.deeds g) deed s one goes.1.1)
      either false other one rest = subst (λ (l : Deeds). IsPending c h l s) (deeds_there w.deeds g h (w.deeds g ++ deed ∷ []) other) (rest one)
  pending (Breaks g k call ∷ entries) w s goes is = either (g == h) refl is (λ one. pending entries (after w (Breaks g k call) goes.0) s goes.2 one)
    where
      either : (b : Bool) → (g == h) ≡ b → cond b None (showing_next h entries) ≡ Some s → (showing_next h entries ≡ Some s → IsPending c h ((after w (Breaks g k call) goes.0).deeds h) s) → IsPending c h (w.deeds h) s
      either true own one rest = absurd (cc)
      either false other one rest = subst (λ (l : Deeds). IsPending c h l s) (deeds_there w.deeds g h [] other) (rest one)
  pending (BreaksIn epoch g k call ∷ entries) w s goes is = either (g == h) refl is (λ one. pending entries (after w (BreaksIn epoch g k call) goes.0) s goes.2 one)
    where
      either : (b : Bool) → (g == h) ≡ b → cond b None (showing_next h entries) ≡ Some s → (showing_next h entries ≡ Some s → IsPending c h ((after w (BreaksIn epoch g k call) goes.0).deeds h) s) → IsPending c h (w.deeds h) s
      either true own one rest = absurd (cc)
      either false other one rest = subst (λ (l : Deeds). IsPending c h l s) (deeds_there w.deeds g h [] other) (rest one)
  pending (Ends g ∷ entries) w s goes is = either (g == h) refl is (λ one. pending entries (after w (Ends g) goes.0) s goes.2 one)
    where
      either : (b : Bool) → (g == h) ≡ b → cond b None (showing_next h entries) ≡ Some s → (showing_next h entries ≡ Some s → IsPending c h ((after w (Ends g) goes.0).deeds h) s) → IsPending c h (w.deeds h) s
      either true own one rest = absurd (cc)
      either false other one rest = subst (λ (l : Deeds). IsPending c h l s) (deeds_there w.deeds g h [] other) (rest one)
  pending (Crashes k ∷ entries) w s goes is = pending entries (after w (Crashes k) goes.0) s goes.2 is
  pending (Loses k ∷ entries) w s goes is = pending entries (after w (Loses k) goes.0) s goes.2 is
  pending (Replaces k first newest ∷ entries) w s goes is = pending entries (after w (Replaces k first newest) goes.0) s goes.2 is

-- the host's last deed was that read
pub pending_reads : (c : Shape) (h : ℕ) (deeds : Deeds) (deed : Deed) (s : Showing) (is : IsPending c h (deeds ++ deed ∷ []) s) →
    deed ≡ Calls s.disk (made (Read is.boot (base_of (image_of c) (epoch_of s.epoch).area + is.at) ROW_LENGTH) (Told is.shows.shown.row))
pending_reads c h deeds deed s is =
    last_same deeds is.shows.before deed (Calls s.disk (made (Read is.boot (base_of (image_of c) (epoch_of s.epoch).area + is.at) ROW_LENGTH) (Told is.shows.shown.row))) is.shows.last

-- so it is no host that has just started
pub not_pending : (c : Shape) (h : ℕ) (s : Showing) → IsPending c h [] s → ⊥
not_pending c h s is = not_nil is.shows.before (Calls s.disk (made (Read is.boot (base_of (image_of c) (epoch_of s.epoch).area + is.at) ROW_LENGTH) (Told is.shows.shown.row))) is.shows.last

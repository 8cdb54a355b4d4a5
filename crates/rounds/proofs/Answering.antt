-- What each answer makes of what a round keeps.
use Rattle.std.proofs.Common.{ℕ, ◌+◌, ◌<◌, ◌≤◌, ◌≡◌, Bool, true, false, cond, not, Option, Some, None, List, [], ◌∷◌, ◌++◌, replicate, refl, sym, subst, ap, ap₂, ◌∙◌, arith}
use Rattle.std.specs.Prelude.{◌&&◌, ◌||◌, nat_le, nat_lt, option_map, if◌then◌else◌}
use Rattle.std.proofs.lemmas.Bool.{leb-true, leb-false, or_right}
use Rattle.disk.specs.Disk as device
use Rattle.disk.specs.declared.boot.Boot.{Boot}
use Rattle.torn_block.specs.declared.layout.TheConstants.{LAST_SEQUENCE}
use Rattle.torn_block.specs.declared.block.Block128.{Block128}
use Rattle.torn_block.specs.declared.write_steps.WriteCall.{WriteCall}
use Rattle.torn_block.specs.declared.write_steps.WriteCall.TheVariants.{CloseGate, SyncClosed, PutBody, SyncBody, OpenGate, SyncOpened}
use Rattle.torn_block.specs.Block.{next_number}
use Rattle.torn_block.specs.Layout.{cluster_version}
use Rattle.torn_block.specs.Plan.{Plan, told_number, plan_by, need_at, next_after, device_call}
use Rattle.torn_block.specs.Stage.{Write128, next_call as call_behind, call_of}
use Rattle.torn_block.proofs.PlanLaws.{plan_calls}
use Rattle.paxos_block.proofs.VoteLemmas.{unspent, spent}
use Rattle.attempt.specs.Heard.{Heard, Booted, Done, Told, Fault, Answers, more, is_bad, told, heard_by, Fits}
use Rattle.attempt.specs.NextCall.{with_disk}
use Rattle.attempt.specs.DeviceCalls.{device_answer}
use Rattle.attempt.specs.WriteCalls.{made, write_due}
use Rattle.attempt.specs.declared.heard.Heard as code_heard
use Rattle.attempt.specs.declared.heard.Heard.TheVariants as answer
use Rattle.rounds.specs.Status.{Duty, Due, status, read_in, write_on, call_on, next_in, is_left, is_held, waits}
use Rattle.rounds.specs.Kept.{IsToWrite, IsWriting, IsAt, IsVisiting, IsPassed, Follows, Stands, at_start, goes_on, drops, passes, begins, writes_on, succeeds, hears, call_at, call_due, end_of_status, end_by}
use Rattle.rounds.specs.declared.end.End as code_end
use Rattle.rounds.specs.declared.end.End.TheVariants as end
use Rattle.rounds.specs.declared.round.Round.{Round}
use Rattle.rounds.specs.declared.round.Stage.{Stage}
use Rattle.rounds.specs.declared.round.Stage.TheVariants as stage
use Rattle.rounds.proofs.Going.{early, stays, passed, goes, ahead_still, bad_not_left, not_left_waits, not_left_held, due_here, over_here, too_few_here}

-- the bytes that the calls were answered with so far, and the write up to this call
abbrev so_far : {A : Type 0} → ℕ → A → Option WriteCall → List (Heard A)
so_far boot said call = Booted boot ∷ Done ∷ Told (Some said) ∷ replicate (made call) Done

one_more : {A : Type 0} (boot : ℕ) (said : A) (call : WriteCall) → so_far boot said (Some call) ++ Done ∷ [] ≡ so_far boot said (call_behind call)
one_more boot said CloseGate = refl
one_more boot said SyncClosed = refl
one_more boot said PutBody = refl
one_more boot said SyncBody = refl
one_more boot said OpenGate = refl
one_more boot said SyncOpened = refl

need_same : (p : Plan) (d : Option WriteCall) (call : WriteCall) → need_at (record p { due = d }) call ≡ need_at p call
need_same p d CloseGate = refl
need_same p d SyncClosed = refl
need_same p d PutBody = refl
need_same p d SyncBody = refl
need_same p d OpenGate = refl
need_same p d SyncOpened = refl

-- no call of a write is an attach
no_boot : (A : Type 0) (place boot number : ℕ) (p : Plan) (due : Option WriteCall) → Fits {A = A} (write_due place boot p due) (Booted number) → ⊥
no_boot A place boot number p None fits = fits
no_boot A place boot number p (Some CloseGate) fits = fits
no_boot A place boot number p (Some SyncClosed) fits = fits
no_boot A place boot number p (Some PutBody) fits = fits
no_boot A place boot number p (Some SyncBody) fits = fits
no_boot A place boot number p (Some OpenGate) fits = fits
no_boot A place boot number p (Some SyncOpened) fits = fits

module _ {A : Type 0} (w : Duty A) where
  -- a round that has heard nothing
  pub started : (n : Round) → 1 ≤ w.disks → n ≡ at_start w.disks n → n.end ≡ None → Follows w (λ d. []) n
  started n some is going =
      let new : Round = at_start w.disks n in
      subst (Follows w (λ d. [])) (sym is)
      (record {
        as_many = refl;
        stands = record {
          passed = record { past = λ e less. absurd (omega arith); dropped = refl; holds = refl };
          ahead = λ e later. refl;
          enough = omega arith;
          here = refl;
        };
      })

  module _ (f : Answers A) (n : Round) (is : Follows w f n) (going : n.end ≡ None) (below : n.disk < n.disks) where
    v : IsVisiting w f n
    v = subst (Stands w f n) going is.stands

    at : (st : Stage) → n.stage ≡ st → IsAt w st n (f n.disk)
    at st same = subst (λ (q : Stage). IsAt w q n (f n.disk)) same v.here

    -- the disk is still visited
    still : (x : Heard A) (new : Round) → new.end ≡ None → new.disks ≡ n.disks → new.disk ≡ n.disk → new.lost ≡ n.lost → new.held ≡ n.held → IsAt w new.stage new (f n.disk ++ x ∷ []) → Follows w (more f n.disk x) new
    still x new none disks disk lost held here =
        record { as_many = disks ∙ is.as_many; stands = subst (Stands w (more f n.disk x) new) (sym none) (stays w f n v x new disk lost held here) }

    -- the disk was attached
    attaches : (boot : Boot) → n.stage ≡ stage.Attaching → Follows w (more f n.disk (Booted boot.number)) (record n { boot = boot; stage = stage.Syncing })
    attaches boot st = still (Booted boot.number) (record n { boot = boot; stage = stage.Syncing }) going refl refl refl refl (ap (λ (a : List (Heard A)). a ++ Booted boot.number ∷ []) (at stage.Attaching st))

    -- it was synced
    syncs : n.stage ≡ stage.Syncing → Follows w (more f n.disk Done) (record n { stage = stage.Reading })
    syncs st = still Done (record n { stage = stage.Reading }) going refl refl refl refl (ap (λ (a : List (Heard A)). a ++ Done ∷ []) (at stage.Syncing st))

    -- the disk is done with
    done : (x : Heard A) (lost held : ℕ) → IsPassed w (more f n.disk x) (n.disk + 1) lost held → Follows w (more f n.disk x) (goes_on n lost held)
    done x lost held are = goes w (more f n.disk x) n going is.as_many below (ahead_still w f n v x) lost held are

    -- a disk that is not left is dropped
    not_left : (x : Heard A) → is_left w (f n.disk ++ x ∷ []) ≡ false → Follows w (more f n.disk x) (drops n)
    not_left x left =
        let a = f n.disk ++ x ∷ [] in
        let held : n.held + 0 ≡ n.held = omega arith in
        done x (n.lost + 1) n.held (subst (IsPassed w (more f n.disk x) (n.disk + 1) (n.lost + 1)) held (passed w f n v x false false (not_left_waits w a left) left (not_left_held w a left)))

    -- a bad answer
    pub dropped : (x : Heard A) → is_bad x ≡ true → Follows w (more f n.disk x) (drops n)
    dropped x bad = not_left x (bad_not_left w (f n.disk) x bad)

    -- THE BYTES WERE READ

    module _ (st : n.stage ≡ stage.Reading) (said : A) where
      abbrev three : List (Heard A)
      three = so_far n.boot.number said (Some CloseGate)

      three_are : f n.disk ++ Told (Some said) ∷ [] ≡ three
      three_are = ap (λ (a : List (Heard A)). a ++ Told (Some said) ∷ []) (at stage.Reading st)

      -- where nothing is to be written, the disk is done with
      pub pass : (held : Bool) → w.is_due (Some said) ≡ false → w.is_so (Some said) ≡ held → Follows w (more f n.disk (Told (Some said))) (passes n held)
      pass held none so =
          let x : Heard A = Told (Some said) in
          let left : is_left w three ≡ true = ap (λ (t : Bool). not (t && nat_le LAST_SEQUENCE (w.sequence (Some said)))) none in
          let still_waits : waits w three ≡ false = ap (λ (t : Bool). not (t && nat_le LAST_SEQUENCE (w.sequence (Some said))) && nat_lt 3 (if t then 9 else 3)) none in
          let is_so : is_held w three ≡ held = ap₂ (λ (l k : Bool). l && (k || nat_le 9 3)) left so ∙ or_false held in
          let lost : n.lost + 0 ≡ n.lost = omega arith in
          done x n.lost (n.held + cond held 1 0)
          (subst (λ (k : ℕ). IsPassed w (more f n.disk x) (n.disk + 1) k (n.held + cond held 1 0)) lost
          (passed w f n v x true held (ap (waits w) three_are ∙ still_waits) (ap (is_left w) three_are ∙ left) (ap (is_held w) three_are ∙ is_so)))
        where
          or_false : (b : Bool) → (b || false) ≡ b
          or_false true = refl
          or_false false = refl

      -- else a write begins, if there is a sequence number left
      pub write : (block : Block128) (body : List ℕ) → IsToWrite w said block body → Follows w (more f n.disk (Told (Some said))) (begins n block body)
      write block body to = by (nat_le (next_number (told_number block)) LAST_SEQUENCE) refl
        where
          by : (b : Bool) → nat_le (next_number (told_number block)) LAST_SEQUENCE ≡ b → Follows w (more f n.disk (Told (Some said))) (if b then record n { steps = plan_by cluster_version block body; stage = stage.Writing } else drops n)
          by true fits =
              still (Told (Some said)) (record n { steps = plan_by cluster_version block body; stage = stage.Writing }) going refl refl refl refl
              (record {
                said = said;
                block = block;
                call = CloseGate;
                heard = three_are;
                begun = subst (IsToWrite w said block) to.writes to;
                unspent = unspent (told_number block) (w.sequence (Some said)) to.sequence (leb-true (next_number (told_number block)) LAST_SEQUENCE fits);
                plan = ap (plan_by cluster_version block) to.writes;
              })
          by false none =
              let over = leb-false (next_number (told_number block)) LAST_SEQUENCE none in
              let stuck : nat_le LAST_SEQUENCE (w.sequence (Some said)) ≡ true = spent (told_number block) (w.sequence (Some said)) to.sequence (λ fits. absurd (omega arith)) in
              not_left (Told (Some said)) (ap (is_left w) three_are ∙ ap₂ (λ (t k : Bool). not (t && k)) to.due stuck)

    -- A CALL OF THE WRITE

    module _ (st : n.stage ≡ stage.Writing) where
      u : IsWriting w n (f n.disk)
      u = at stage.Writing st

      abbrev plan : Option WriteCall → Plan
      plan due = record (plan_by cluster_version u.block (w.body (Some u.said))) { due = due }

      heard_then : f n.disk ++ Done ∷ [] ≡ so_far n.boot.number u.said (call_behind u.call)
      heard_then = ap (λ (a : List (Heard A)). a ++ Done ∷ []) u.heard ∙ one_more n.boot.number u.said u.call

      due_then : next_after n.steps.due ≡ call_behind u.call
      due_then = ap (λ (p : Plan). next_after p.due) u.plan

      writes_by : (after : Option WriteCall) → call_behind u.call ≡ after → Follows w (more f n.disk Done) (writes_on n after)
      -- it was the last
      writes_by None none =
          let new : Round = record n { steps = record n.steps { due = None } } in
          let all : f n.disk ++ Done ∷ [] ≡ so_far n.boot.number u.said None = heard_then ∙ ap (so_far n.boot.number u.said) none in
          let waits_not : waits w (so_far n.boot.number u.said None) ≡ false = ap (λ (t : Bool). nat_lt 9 (if t then 9 else 3)) u.begun.due in
          let held : is_held w (so_far n.boot.number u.said None) ≡ true = or_right (w.is_so (Some u.said)) true refl in
          let lost : n.lost + 0 ≡ n.lost = omega arith in
          goes w (more f n.disk Done) new going is.as_many below (ahead_still w f n v Done) n.lost (n.held + 1)
          (subst (λ (k : ℕ). IsPassed w (more f n.disk Done) (n.disk + 1) k (n.held + 1)) lost
          (passed w f n v Done true true (ap (waits w) all ∙ waits_not) (ap (is_left w) all ∙ refl) (ap (is_held w) all ∙ held)))
      -- it was not
      writes_by (Some after) some =
          let new : Round = record n { steps = record n.steps { due = Some after } } in
          still Done new going refl refl refl refl
          (subst (λ (q : Stage). IsAt w q new (f n.disk ++ Done ∷ [])) (sym st)
          (record {
            said = u.said;
            block = u.block;
            call = after;
            heard = heard_then ∙ ap (so_far n.boot.number u.said) some;
            begun = u.begun;
            unspent = u.unspent;
            plan = ap (λ (p : Plan). record p { due = Some after }) u.plan;
          }))

      pub writes : Follows w (more f n.disk Done) (writes_on n (next_after n.steps.due))
      writes = subst (λ (o : Option WriteCall). Follows w (more f n.disk Done) (writes_on n o)) (sym due_then) (writes_by (call_behind u.call) refl)

    -- ANY OTHER ANSWER

    succeeded : (q : Stage) → n.stage ≡ q → Fits {A = A} (call_at q w.reads w.place n) Done → Follows w (more f n.disk Done) (succeeds q n)
    succeeded stage.Attaching st fits = absurd fits
    succeeded stage.Syncing st fits = syncs st
    succeeded stage.Reading st fits = absurd fits
    succeeded stage.Writing st fits = writes st

    attached : (q : Stage) (boot : Boot) → n.stage ≡ q → Fits {A = A} (call_at q w.reads w.place n) (Booted boot.number) → Follows w (more f n.disk (Booted boot.number)) (record n { boot = boot; stage = stage.Syncing })
    attached stage.Attaching boot st fits = attaches boot st
    attached stage.Syncing boot st fits = absurd fits
    attached stage.Reading boot st fits = absurd fits
    attached stage.Writing boot st fits = absurd (no_boot A w.place n.boot.number boot.number n.steps n.steps.due fits)

    pub heard : (said : List ℕ → Option A) (x : code_heard.Heard (List ℕ)) → Fits (call_at n.stage w.reads w.place n) (heard_by said (device_answer x)) → ((bytes : _) → x ≡ answer.Told bytes → ⊥) → Follows w (more f n.disk (heard_by said (device_answer x))) (hears n x)
    heard said (answer.Booted boot) fits other = attached n.stage boot refl fits
    heard said answer.Done fits other = succeeded n.stage refl fits
    heard said (answer.Told bytes) fits other = absurd (other bytes refl)
    heard said (answer.Fault fault) fits other = dropped (Fault fault) refl

    -- WHAT WAS READ

    -- a call that does not tell what was read changes nothing of it
    kept_at : (q : Stage) → IsAt w q n (f n.disk) → (x : Heard A) → (q ≡ stage.Reading → told x ≡ None) → read_in (f n.disk ++ x ∷ []) ≡ read_in (f n.disk)
    kept_at stage.Attaching here x none = subst (λ (a : List (Heard A)). read_in (a ++ x ∷ []) ≡ read_in a) (sym here) refl
    kept_at stage.Syncing here x none = subst (λ (a : List (Heard A)). read_in (a ++ x ∷ []) ≡ read_in a) (sym here) refl
    kept_at stage.Reading here x none = subst (λ (a : List (Heard A)). read_in (a ++ x ∷ []) ≡ read_in a) (sym here) (none refl)
    kept_at stage.Writing here x none = subst (λ (a : List (Heard A)). read_in (a ++ x ∷ []) ≡ read_in a) (sym here.heard) refl

    pub read_kept : (x : Heard A) → (n.stage ≡ stage.Reading → told x ≡ None) → read_in (f n.disk ++ x ∷ []) ≡ read_in (f n.disk)
    read_kept x none = kept_at n.stage v.here x none

    pub read_now : (x : Heard A) → n.stage ≡ stage.Reading → read_in (f n.disk ++ x ∷ []) ≡ told x
    read_now x st = ap (λ (a : List (Heard A)). read_in (a ++ x ∷ [])) (at stage.Reading st)

    -- THE CALL THAT IS DUE

    -- on the disk that is visited calls are due, and this is the next
    pub record IsThere (a : List (Heard A)) (call : device.Call) : Type 0 where
      pub left : is_left w a ≡ true
      pub waiting : waits w a ≡ true
      pub next : call_on w a ≡ Some call

    module _ (at_write : IsWriting w n (f n.disk)) where
      abbrev said : A
      said = at_write.said

      abbrev due_now : device.Call
      due_now = write_due w.place n.boot.number n.steps n.steps.due

      there_by : (call : WriteCall) → call_of call (write_on w (so_far n.boot.number said (Some call))) n.boot.number ≡ due_now → IsThere (so_far n.boot.number said (Some call)) due_now
      there_by CloseGate same = record {
        left = ap₂ (λ (t k : Bool). not (t && k)) at_write.begun.due at_write.unspent;
        waiting = ap₂ (λ (t k : Bool). not (t && k) && nat_lt 3 (if t then 9 else 3)) at_write.begun.due at_write.unspent;
        next = ap Some same;
      }
      there_by SyncClosed same = record { left = refl; waiting = ap (λ (t : Bool). nat_lt 4 (if t then 9 else 3)) at_write.begun.due; next = ap Some same }
      there_by PutBody same = record { left = refl; waiting = ap (λ (t : Bool). nat_lt 5 (if t then 9 else 3)) at_write.begun.due; next = ap Some same }
      there_by SyncBody same = record { left = refl; waiting = ap (λ (t : Bool). nat_lt 6 (if t then 9 else 3)) at_write.begun.due; next = ap Some same }
      there_by OpenGate same = record { left = refl; waiting = ap (λ (t : Bool). nat_lt 7 (if t then 9 else 3)) at_write.begun.due; next = ap Some same }
      there_by SyncOpened same = record { left = refl; waiting = ap (λ (t : Bool). nat_lt 8 (if t then 9 else 3)) at_write.begun.due; next = ap Some same }

      writing_there : IsThere (f n.disk) due_now
      writing_there =
          let own : Write128 = record { version = cluster_version; place = w.place; block = w.block (Some said); body = w.body (Some said) } in
          let boot = n.boot.number in
          let due : due_now ≡ call_of at_write.call own boot =
          ap (λ (p : Plan). write_due w.place boot p p.due) at_write.plan ∙ ap (device_call w.place boot) (need_same (plan_by cluster_version at_write.block (w.body (Some said))) (Some at_write.call) at_write.call)
          ∙ plan_calls own at_write.block at_write.begun.read at_write.call boot in
          subst (λ (a : List (Heard A)). IsThere a due_now) (sym at_write.heard) (there_by at_write.call (sym due))

    there_at : (q : Stage) → IsAt w q n (f n.disk) → IsThere (f n.disk) (call_at q w.reads w.place n)
    there_at stage.Attaching here = subst (λ (a : List (Heard A)). IsThere a device.Attach) (sym here) (record { left = refl; waiting = early (w.is_due None) 0 (omega arith); next = refl })
    there_at stage.Syncing here = subst (λ (a : List (Heard A)). IsThere a (call_at stage.Syncing w.reads w.place n)) (sym here) (record { left = refl; waiting = early (w.is_due None) 1 (omega arith); next = refl })
    there_at stage.Reading here = subst (λ (a : List (Heard A)). IsThere a (call_at stage.Reading w.reads w.place n)) (sym here) (record { left = refl; waiting = early (w.is_due None) 2 (omega arith); next = refl })
    there_at stage.Writing here = writing_there here

    there : IsThere (f n.disk) (call_at n.stage w.reads w.place n)
    there = there_at n.stage v.here

    pub is_due : {E : Type 0} (over too_few : E) → status w over too_few f ≡ Due n.disk
    is_due over too_few = due_here w over too_few f n v (omega (arith, is.as_many)) there.waiting there.left

    pub call_is : {E : Type 0} (over too_few : E) → next_in w f (status w over too_few f) ≡ Some (call_due w.reads w.place n)
    call_is over too_few = ap (next_in w f) (is_due over too_few) ∙ ap (with_disk n.disk) there.next

  -- HOW IT STANDS

  -- its user ends it as the answers say
  pub end_is : {E : Type 0} (over : ℕ → E) (all too_few : E) (f : Answers A) (n : Round) → Follows w f n → n.disk < n.disks → ((held : ℕ) → n.end ≡ Some (end.Over held) → Stands w f n (Some (end.Over held)) → over held ≡ all)
      → option_map (end_by over too_few) n.end ≡ end_of_status (status w all too_few f)
  end_is over all too_few f n is below same = go n.end refl
    where
      go : (e : Option code_end.End) → n.end ≡ e → option_map (end_by over too_few) e ≡ end_of_status (status w all too_few f)
      go None none = sym (ap end_of_status (is_due f n is none below all too_few))
      go (Some (end.Over held)) some =
          let stands = subst (Stands w f n) some is.stands in
          ap Some (same held some stands) ∙ sym (ap end_of_status (over_here w all too_few f held stands))
      go (Some end.NoMajority) some = sym (ap end_of_status (too_few_here w all too_few f (subst (Stands w f n) some is.stands)))

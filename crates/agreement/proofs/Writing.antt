-- A host begins to write the block of its phase on a disk, and the write is confirmed.
use Rattle.std.proofs.Common.{ℕ, suc, ◌<◌, ◌≤◌, ◌≡◌, ◌⊎◌, inl, inr, Option, Some, None, refl, sym, subst, ap, arith}
use Rattle.agreement.specs.State.{Block, Cell, writing_one, writing_two, Mind, State}
use Rattle.agreement.specs.State.Mind.{Idle, Opening, One, Two}
use Rattle.agreement.specs.Event.{Write, write_one, write_two, write_of, at_stage, at_rest, being_written, IsReading, Allowed, after}
use Rattle.agreement.specs.Event.Event.{Begins, Confirms}
use Rattle.agreement.specs.Claims.{WritesAtRest}
use Rattle.agreement.proofs.Invariant.{Proposals, Accepted, Holds, IsBlockOf, IsWrite, IsInStage, IsMind}
use Rattle.agreement.proofs.Frames.{keeps_cell}
use Rattle.agreement.proofs.Reading.{rests, comes}

-- WHAT BECOMES OF A WRITE

-- it is confirmed
pub write_confirmed : {Value : Type 0} (w : Write Value) (stage : ℕ) → IsWrite w (at_rest w.block stage)
write_confirmed w stage = record {
  mbal = omega arith;
  bal = omega arith;
  alone = λ x e. absurd (cc);
  wrote_mbal = λ l. omega arith;
  wrote_bal = λ l. omega arith;
}

module _ {Value : Type 0} (w : Write Value) (c : Cell Value) (u : IsWrite w c) where
  -- it begins
  pub write_begun : IsWrite w (being_written c w)
  write_begun = record {
    mbal = u.mbal;
    bal = u.bal;
    alone = λ x e. (refl, cc);
    wrote_mbal = λ l. absurd (omega arith);
    wrote_bal = λ l. absurd (omega arith);
  }

  -- the host goes on to a stage behind it
  pub write_passed : (stage : ℕ) → w.stage < c.stage → w.stage < stage → IsWrite w (at_stage c stage)
  write_passed stage was is = record {
    mbal = u.mbal;
    bal = u.bal;
    alone = λ x e. (let same = (u.alone x e).0 in absurd (omega (arith, same, was)));
    wrote_mbal = λ l. u.wrote_mbal was;
    wrote_bal = λ l. u.wrote_bal was;
  }

  -- it is confirmed or vanishes, or there was none
  pub write_settled : (x : Block Value) → IsReading c x → IsWrite w (at_rest x c.stage)
  write_settled x (inl same) =
      subst (λ y. IsWrite w (at_rest y c.stage)) (sym same)
      (record { mbal = u.mbal; bal = u.bal; alone = λ y e. absurd (cc); wrote_mbal = u.wrote_mbal; wrote_bal = u.wrote_bal })
  write_settled x (inr coming) =
      let only = u.alone x coming in
      subst (λ y. IsWrite w (at_rest y c.stage)) (sym only.1) (write_confirmed w c.stage)

-- THE WRITE OF THE HOST'S PHASE

module _ {Value : Type 0} (accepted : Accepted) (d : ℕ) (w : Write Value) (c : Cell Value) where
  -- A host that has come to the disk in its phase may count on the write.
  pub to_write : (m : Mind Value) → write_of m ≡ Some w → IsInStage accepted d m c → w.stage ≤ suc c.stage → IsWrite w c
  to_write Idle e old l = absurd (cc)
  to_write (Opening o) e old l = absurd (cc)
  to_write (One a) e old l =
      let same : write_one a ≡ w = cc in
      subst (λ v. v.stage ≤ suc c.stage → IsWrite v c) same (λ k. (old (omega arith)).write) l
  to_write (Two t) e old l =
      let same : write_two t ≡ w = cc in
      subst (λ v. v.stage ≤ suc c.stage → IsWrite v c) same (λ k. (old (omega arith)).write) l

  -- The write is all that it may count on, until it has read.
  pub from_write : (m : Mind Value) → write_of m ≡ Some w → IsWrite w c → c.stage ≤ suc w.stage → IsInStage accepted d m c
  from_write Idle e u l = absurd (cc)
  from_write (Opening o) e u l = absurd (cc)
  from_write (One a) e u l =
      let same : w ≡ write_one a = cc in
      subst (λ v. IsWrite v c → c.stage ≤ suc v.stage → IsInStage accepted d (One a) c) (sym same)
      (λ v k n. record { stage = omega arith; write = v; found = λ r. absurd (omega arith) }) u l
  from_write (Two t) e u l =
      let same : w ≡ write_two t = cc in
      subst (λ v. IsWrite v c → c.stage ≤ suc v.stage → IsInStage accepted d (Two t) c) (sym same)
      (λ v k n. record { write = v; told = λ r. absurd (omega arith) }) u l

-- it is at one of two stages
pub write_stage : {Value : Type 0} (w : Write Value) (m : Mind Value) → write_of m ≡ Some w → (w.stage ≡ writing_one) ⊎ (w.stage ≡ writing_two)
write_stage w Idle e = absurd (cc)
write_stage w (Opening o) e = absurd (cc)
write_stage w (One a) e = let same : write_one a ≡ w = cc in inl (sym (ap (λ (v : Write _). v.stage) same))
write_stage w (Two t) e = let same : write_two t ≡ w = cc in inr (sym (ap (λ (v : Write _). v.stage) same))

-- what it writes is a block of its own, and its vote is backed
block_written : {Value : Type 0} (proposed : Proposals Value) (h : ℕ) (w : Write Value) (m : Mind Value) → write_of m ≡ Some w → IsMind proposed h m → IsBlockOf proposed h w.block
block_written proposed h w Idle e mind = absurd (cc)
block_written proposed h w (Opening o) e mind = absurd (cc)
block_written proposed h w (One a) e mind =
    let same : write_one a ≡ w = cc in
    subst (λ (v : Write _). IsBlockOf proposed h v.block) same (record { low = omega (arith, mind.from_own, mind.below); vote = mind.own })
block_written proposed h w (Two t) e mind =
    let same : write_two t ≡ w = cc in
    subst (λ (v : Write _). IsBlockOf proposed h v.block) same
    (record { low = omega arith; vote = record { backed = inr (t.value, refl, mind.proposal); owned = inr mind.owned } })

-- THE EVENTS

module _ {Value : Type 0} (disks : ℕ) (s : State Value) (i : Holds disks s) (h d : ℕ) (w : Write Value) where
  -- the write begins
  pub keeps_begins : Allowed disks s (Begins h d w) → Holds disks (after s (Begins h d w))
  keeps_begins (writes, due, rest) =
      let c = s.cell h d in
      let u = to_write s.accepted d w c (s.mind h) writes (i.stages h d) (omega (arith, due)) in
      keeps_cell disks s i h d (being_written c w)
      (comes c (i.registers h d) w (record { block = block_written s.proposed h w (s.mind h) writes (i.minds h); mbal = u.mbal; bal = u.bal }))
      (from_write s.accepted d w (being_written c w) (s.mind h) writes (write_begun w c u) (omega arith))

  -- and is confirmed
  pub keeps_confirms : Allowed disks s (Confirms h d w) → Holds disks (after s (Confirms h d w))
  keeps_confirms (writes, stage, coming) =
      let c = s.cell h d in
      let done = suc w.stage in
      keeps_cell disks s i h d (at_rest w.block done)
      (rests c (i.registers h d) w.block done ((i.registers h d).writing w.block coming))
      (from_write s.accepted d w (at_rest w.block done) (s.mind h) writes (write_confirmed w done) (omega arith))

-- Where the phase's write is due, nothing is in writing.
pub writes_at_rest : {Value : Type 0} (disks : ℕ) (s : State Value) → Holds disks s → WritesAtRest s
writes_at_rest disks s i h d w writes due = nothing (s.cell h d).writing refl
  where
    u : IsWrite w (s.cell h d)
    u = to_write s.accepted d w (s.cell h d) (s.mind h) writes (i.stages h d) (omega (arith, due))

    nothing : (o : Option (Block _)) → (s.cell h d).writing ≡ o → o ≡ None
    nothing None is = refl
    nothing (Some x) is = (let same = (u.alone x is).0 in absurd (omega (arith, due, same)))

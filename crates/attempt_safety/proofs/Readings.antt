-- The rows that a mind takes in: the opening's, and phase 1's.
use Rattle.std.specs.Prelude.{nat_lt, max, if◌then◌else◌}
use Rattle.std.proofs.Common.{ℕ, zero, suc, ◌<◌, ◌≤◌, ◌≡◌, ◌≢◌, ◌==◌, inl, inr, Bool, true, false, None, Some, List, refl, sym, subst, ap, ◌∙◌, arith}
use Rattle.std.proofs.lemmas.Bool.{cases_lt, ltb-true, ltb-false}
use Rattle.torn_block.specs.declared.layout.TheConstants.{HOSTS}
use Rattle.paxos_block.specs.Saying.{Said as PBlock}
use Rattle.paxos_block.specs.Row.{DecodedBlock}
use Rattle.torn_block.specs.Layout.{Version, cluster_version, hosts_in}
use Rattle.paxos_block.specs.Votes.{says_in, highest_mbal, highest_mbal_of_others, later_of, latest_below, latest_in}
use Rattle.paxos_block.proofs.VoteLemmas.{greatest_is_greatest}
use Rattle.attempt.specs.Calls.{Opening, One}
use Rattle.attempt.specs.Answers.{Told, Answers, more}
use Rattle.attempt.specs.Setup.{Setup}
use Rattle.attempt.specs.Proposal.{own, best}
use Rattle.attempt.proofs.Lists.{by_eq}
use Rattle.attempt.proofs.Rows.{IsLast, highest_takes, own_takes, best_takes}
use Rattle.agreement.specs.State.{Block, Cell}
use Rattle.agreement.specs.Event.{IsLastVote, IsOthers, CanSee}
use Rattle.attempt_safety.specs.Machine.{block_said, vote_said, blocks_said, top, opened}

-- THE LATER OF TWO VOTES

-- of an old vote and a block's, the later one
later_by : (best says : PBlock) (later : Bool) → nat_lt best.bal says.bal ≡ later → IsLastVote (λ x. x ≡ block_said says) (vote_said best) (vote_said (if later then says else best))
later_by best says true is =
    let above : best.bal < says.bal = ltb-true best.bal says.bal is in
    record {
      kept = omega arith;
      reached = λ x e. (let bal : x.bal ≡ says.bal = ap (λ (y : Block (List ℕ)). y.bal) e in omega arith);
      picked = inr (block_said says, refl, refl);
    }
later_by best says false is =
    let below : says.bal ≤ best.bal = ltb-false best.bal says.bal is in
    record {
      kept = omega arith;
      reached = λ x e. (let bal : x.bal ≡ says.bal = ap (λ (y : Block (List ℕ)). y.bal) e in omega arith);
      picked = inl refl;
    }

-- whichever that is
pub later_is : (best says : PBlock) → IsLastVote (λ x. x ≡ block_said says) (vote_said best) (vote_said (later_of best says))
later_is best says = later_by best says (nat_lt best.bal says.bal) refl

-- THE LATEST OF A ROW

module _ (host : ℕ) (row : List DecodedBlock) (best : PBlock) where
  -- the block of one of the first n hosts, but not of this one
  abbrev IsOfOthers : ℕ → Block (List ℕ) → Type 0
  IsOfOthers n x = (g : ℕ) × (g < n) × (g ≢ host) × (x ≡ blocks_said row g)

  further : (n : ℕ) (x : Block (List ℕ)) → IsOfOthers n x → IsOfOthers (suc n) x
  further n x (g, l, off, is) = (g, omega arith, off, is)

  -- with a host more
  next : (n : ℕ) (old : PBlock) → n ≢ host → IsLastVote (IsOfOthers n) (vote_said best) (vote_said old)
      → IsLastVote (λ x. x ≡ blocks_said row n) (vote_said old) (vote_said (later_of old (says_in row n)))
      → IsLastVote (IsOfOthers (suc n)) (vote_said best) (vote_said (later_of old (says_in row n)))
  next n old off before here =
      record {
        kept = omega (arith, before.kept, here.kept);
        reached = λ x others. elim (cases_lt others.0 n) [
          | inl less ↦ omega (arith, before.reached x (others.0, less, others.2, others.3), here.kept)
          | inr last ↦
              (let same : others.0 ≡ n = (let below = others.1 in omega arith) in
              here.reached x (subst (λ (g : ℕ). x ≡ blocks_said row g) same others.3))
        ];
        picked = elim here.picked [
          | inl kept ↦ elim before.picked [
            | inl same ↦ inl (kept ∙ same)
            | inr (x, others, is) ↦ inr (x, further n x others, kept ∙ is)
          ]
          | inr (x, same, is) ↦ inr (x, (n, omega arith, off, same), is)
        ];
      }

  latest_is_below : (n : ℕ) → IsLastVote (IsOfOthers n) (vote_said best) (vote_said (latest_below host row n best))
  latest_is_below zero = record { kept = omega arith; reached = λ x (g, l, off, is). absurd (omega arith); picked = inl refl }
  latest_is_below (suc n) =
      let before = latest_is_below n in
      by_eq (λ t. IsLastVote (IsOfOthers (suc n)) (vote_said best) (vote_said (if t then latest_below host row n best else later_of (latest_below host row n best) (says_in row n)))) n host
      (λ own. record {
        kept = before.kept;
        reached = λ x others. elim (cases_lt others.0 n) [
          | inl less ↦ before.reached x (others.0, less, others.2, others.3)
          | inr last ↦ (let off = others.2 in let below = others.1 in absurd (off (omega arith)))
        ];
        picked = elim before.picked [ inl same ↦ inl same | inr (x, others, is) ↦ inr (x, further n x others, is) ];
      })
      (λ off. next n (latest_below host row n best) off before (later_is (latest_below host row n best) (says_in row n)))

  -- of a vote and those of the other hosts in a row, the latest
  pub latest_is : (v : Version) → v ≡ cluster_version → IsLastVote (IsOthers host (blocks_said row)) (vote_said best) (vote_said (latest_in v host row best))
  latest_is v is = subst (λ (w : Version). IsLastVote (IsOthers host (blocks_said row)) (vote_said best) (vote_said (latest_in w host row best))) (sym is) (latest_is_below HOSTS)

-- nobody else in a row has a greater mbal than the greatest of the others
pub others_below : (v : Version) → v ≡ cluster_version → (host : ℕ) (row : List DecodedBlock) (g : ℕ) → g < HOSTS → g ≢ host → (says_in row g).mbal ≤ highest_mbal_of_others v host row
others_below v is host row g low off =
    let l : g < hosts_in v = subst (λ (w : Version). g < hosts_in w) (sym is) low in
    let least = greatest_is_greatest (hosts_in v) (λ g. if g == host then 0 else (says_in row g).mbal) g l in
    by_eq (λ t. (if t then 0 else (says_in row g).mbal) ≤ highest_mbal_of_others v host row → (says_in row g).mbal ≤ highest_mbal_of_others v host row) g host (λ same. absurd (off same)) (λ other. λ le. le) least

-- ONE ROW MORE

module _ (s : Setup) (f : Answers) (d : ℕ) (row : List DecodedBlock) where
  abbrev new : Answers
  new = more f d (Told (Some row))

  -- the greatest mbal, whatever the floor
  top_takes : IsLast s Opening d f → top s new ≡ max (top s f) (highest_mbal s.version row)
  top_takes is =
      let low : Setup = record s { floor = 0 } in
      let takes = highest_takes low f d row (record { below = is.below; last = is.last; behind = is.behind }) in
      omega (arith, takes)

  -- the opening's row, in which the own block is the confirmed one
  pub can_see : (c : Cell (List ℕ)) → s.host < hosts_in s.version → IsLast s Opening d f → c.writing ≡ None → blocks_said row s.host ≡ c.confirmed → CanSee c (opened s f) (opened s new)
  can_see c below is rests read =
      let takes = top_takes is in
      let own_top : (says_in row s.host).mbal ≤ highest_mbal s.version row = greatest_is_greatest (hosts_in s.version) (λ g. (says_in row g).mbal) s.host below in
      let mbal : (says_in row s.host).mbal ≡ c.confirmed.mbal = ap (λ (x : Block (List ℕ)). x.mbal) read in
      let later : IsLastVote (λ x. x ≡ blocks_said row s.host) (vote_said (own s f)) (vote_said (later_of (own s f) (says_in row s.host))) = later_is (own s f) (says_in row s.host) in
      let own_is : IsLastVote (λ x. x ≡ blocks_said row s.host) (vote_said (own s f)) (vote_said (own s new)) = subst (λ (v : PBlock). IsLastVote (λ x. x ≡ blocks_said row s.host) (vote_said (own s f)) (vote_said v)) (sym (own_takes s f d row is)) later in
      record {
        settled = rests;
        top_kept = omega arith;
        top_reached = omega arith;
        own = subst (λ (y : Block (List ℕ)). IsLastVote (λ x. x ≡ y) (vote_said (own s f)) (vote_said (own s new))) read own_is;
      }

  -- the row of phase 1
  pub best_is : s.version ≡ cluster_version → IsLast s One d f → IsLastVote (IsOthers s.host (blocks_said row)) (vote_said (best s f)) (vote_said (best s new))
  best_is of_cluster is = subst (λ (v : PBlock). IsLastVote (IsOthers s.host (blocks_said row)) (vote_said (best s f)) (vote_said v)) (sym (best_takes s f d row is)) (latest_is s.host row (best s f) s.version of_cluster)

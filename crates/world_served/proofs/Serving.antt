-- A submission that is left alone: what holds of its host at each place, where a slot is tried next, and what follows at the end.
use Rattle.std.specs.Prelude.{nat_lt, if◌then◌else◌}
use Rattle.std.proofs.Common.{ℕ, ◌+◌, ◌*◌, ◌<◌, ◌≤◌, ◌≡◌, Bool, true, false, Option, Some, None, List, length, refl, sym, subst, ap, ◌∙◌, arith}
use Rattle.std.proofs.lemmas.Bool.{ltb-true}
use Rattle.attempt.specs.Answers.{on}
use Rattle.attempt.specs.Numbers.{count}
use Rattle.lock_command.specs.declared.command.Command.{Command}
use Rattle.paxos_block.specs.Shape.{Shape}
use Rattle.host.specs.Host.{Operation, Submitting, Attempt, Doing, Attempts, Memory, Running, learned_of, says, does, begins, full_answer, goes_on}
use Rattle.world.specs.Entry.{Filled}
use Rattle.world.specs.World.{World}
use Rattle.world.specs.Chosen.{at}
use Rattle.world_served.specs.Served.{IsServedBy}
use Rattle.world_served.proofs.Counting.{count_marked, within}
use Rattle.world_served.proofs.Resting.{Rests, rests_none}

module _ (c : Shape) (log : List Filled) (i host : ℕ) (command : Command) (marks : ℕ → Bool) where
  -- the slots that were learned before, the calls of one attempt, and the bound
  abbrev pub base : ℕ
  base = length (learned_of ((at c log i).host host))

  abbrev pub width : ℕ
  width = 17 * c.disks

  abbrev pub most : ℕ
  most = 17 * c.disks * (count c.slots marks + 1)

  -- WHAT HOLDS

  -- an attempt is under way: the slots that were learned meanwhile are marked, and each took at most so many calls
  pub record IsServing (calls : ℕ) (w : World) (m : Memory) (t : Attempt) : Type 0 where
    pub quiet : m.said ≡ None
    pub operation : t.operation ≡ Submitting command
    pub past : ℕ
    pub learned : length m.learned ≡ base + past
    pub marked : (slot : ℕ) → base ≤ slot → slot < base + past → marks slot ≡ true
    pub fits : length m.learned < c.slots
    pub short : length t.heard < width
    pub bound : calls ≤ past * width + length t.heard
    pub rests : Rests host (length m.learned) w.disk (on t.heard)

  -- or the host has said what is claimed
  abbrev pub SoFar : ℕ → World → Memory → Option Doing → Type 0
  SoFar calls w m None = IsServedBy most calls m.said
  SoFar calls w m (Some (Attempts t)) = IsServing calls w m t
  SoFar calls w m (Some other) = ⊥

  -- so it is with the host, which runs
  pub record Serves (calls : ℕ) (w : World) : Type 0 where
    pub memory : Memory
    pub running : w.host host ≡ Running memory
    pub so_far : SoFar calls w memory memory.doing

  -- whatever attempt is under way then is the submission's
  abbrev pub IsOwn : World → Type 0
  IsOwn w = (m : Memory) (t : Attempt) → w.host host ≡ Running m → m.doing ≡ Some (Attempts t) → t.operation ≡ Submitting command

  -- so it is
  pub own_so : (calls : ℕ) (w : World) → Serves calls w → IsOwn w
  own_so calls w serves m t running does =
      let both : Running serves.memory ≡ Running m = sym serves.running ∙ running in
      let same : serves.memory ≡ m = cc in
      let one : serves.memory.doing ≡ Some (Attempts t) = ap (λ (k : Memory). k.doing) same ∙ does in
      (subst (SoFar calls w serves.memory) one serves.so_far).operation

  -- so many slots are within the marks
  pub enough : (past : ℕ) → base + past ≤ c.slots → ((slot : ℕ) → base ≤ slot → slot < base + past → marks slot ≡ true) → past * width + width ≤ most
  enough past room marked = within past (count c.slots marks) width (count_marked c.slots marks base past room marked)

  -- so the calls are fewer than the bound
  serving_so : (calls : ℕ) (w : World) (m : Memory) (t : Attempt) → IsServing calls w m t → calls < most
  serving_so calls w m t is =
      let fits = is.fits in
      let learned = is.learned in
      let all = enough is.past (omega arith) is.marked in
      let so_many = is.bound in
      let short = is.short in
      omega arith

  -- THE NEXT SLOT

  -- a slot is tried, or there is none
  pub goes_on_so : 1 ≤ c.disks → (calls : ℕ) (w : World) (m : Memory) (operation : Operation) (left past : ℕ) → operation ≡ Submitting command → length m.learned ≡ base + past → ((slot : ℕ) → base ≤ slot → slot < base + past → marks slot ≡ true)
      → calls ≤ past * width → calls ≤ most → SoFar calls w (goes_on c m operation left) (goes_on c m operation left).doing
  goes_on_so some calls w m operation left past own learned marked so_many all = go (nat_lt (length m.learned) c.slots) refl
    where
      full : (other : Operation) → Submitting command ≡ other → IsServedBy most calls (Some (full_answer other (length m.learned)))
      full other same = subst (λ (o : Operation). IsServedBy most calls (Some (full_answer o (length m.learned)))) same all

      go : (b : Bool) → nat_lt (length m.learned) c.slots ≡ b → SoFar calls w (if b then begins m operation left else says m (full_answer operation (length m.learned))) (if b then begins m operation left else says m (full_answer operation (length m.learned))).doing
      go true is =
          record {
            quiet = refl;
            operation = own;
            past = past;
            learned = learned;
            marked = marked;
            fits = ltb-true (length m.learned) c.slots is;
            short = omega arith;
            bound = omega arith;
            rests = λ d. rests_none host (length m.learned) (w.disk d);
          }
      go false is = full operation (sym own)

  -- AT THE END

  -- what the host has said, if anything, is what is claimed
  pub said_so : (calls : ℕ) (w : World) (m : Memory) (o : Option Doing) → SoFar calls w m o → IsServedBy most calls m.said
  said_so calls w m None so = so
  said_so calls w m (Some (Attempts t)) so = subst (IsServedBy most calls) (sym so.quiet) (serving_so calls w m t so)
  said_so calls w m (Some other) so = absurd so

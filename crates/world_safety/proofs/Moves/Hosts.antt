-- What a host does between its calls is a few moves, which leave all blocks and all other hosts.
use Rattle.std.specs.Prelude.{nat_lt, map, if◌then◌else◌}
use Rattle.std.proofs.Common.{ℕ, ◌<◌, ◌≤◌, ◌≡◌, ◌≢◌, ◌==◌, ◌⊎◌, inl, inr, Bool, true, false, cond, Option, Some, None, List, [], ◌∷◌, ◌++◌, length, append-nil, append_assoc, refl, sym, subst, ap, ◌∙◌, arith}
use Rattle.std.proofs.lemmas.Bool.{cases_eq, ltb-true, ltb-false}
use Rattle.std.proofs.lemmas.List.{length-map, map-append}
use Rattle.torn_block.specs.Layout.{cluster_version}
use Rattle.torn_block.specs.declared.layout.TheConstants.{HOSTS}
use Rattle.paxos_block.specs.Places.{IsImage}
use Rattle.attempt.specs.Answers.{Heard, Answers, on}
use Rattle.attempt.specs.Calls.{Kind, Attaching}
use Rattle.attempt.proofs.Lists.{by_eq}
use Rattle.lock_command.specs.declared.command.Command.{Command}
use Rattle.lock_command.specs.Command.{spelling}
use Rattle.paxos_block.specs.Shape.{Shape}
use Rattle.host.specs.declared.answer.HostAnswer.{HostAnswer}
use Rattle.host.specs.declared.answer.HostAnswer.TheVariants.{Recovered}
use Rattle.rounds.specs.Marking.Status as mark
use Rattle.host.specs.Host.{Operation, Attempt, Doing, Attempts, Marks, Memory, Host, Stopped, Running, marking_of, input_of, setup_of, says, begins, full_answer, goes_on}
use Rattle.world.specs.World.{World}
use Rattle.agreement.specs.Event.{Event, after, state_after}
use Rattle.agreement.specs.Event.Event.{Starts, Stops}
use Rattle.agreement.specs.Chosen.{IsInput, IsChosenBy, IsEmpty}
use Rattle.agreement.specs.Log.{moved, IsHistory, slots_after, events_of_slot}
use Rattle.agreement.specs.Log.Move.{At, Learn, Restart}
use Rattle.agreement.proofs.Puts.{put_same, put_other}
use Rattle.attempt_safety.specs.Machine.{Machine}
use Rattle.attempt_safety.specs.Follows.{Follows, IsSameHost}
use Rattle.attempt_safety.specs.Leads.{IsSameBlock}
use Rattle.attempt_safety.proofs.Beginning.{follows_first}
use Rattle.attempt_safety.proofs.Cells.{block_same}
use Rattle.attempt_safety.proofs.Leaving.{follows_same, by_stopping, by_starting, blocks_stopping, blocks_starting}
use Rattle.attempt_safety.proofs.Slotting.{events_here, learned_same}
use Rattle.world_safety.specs.Goes.{Has}
use Rattle.world_safety.specs.Knows.{Knows, KnowsFor}
use Rattle.world_safety.specs.Marking.{KnowsMark}
use Rattle.world_safety.specs.Next.{with_host}
use Rattle.world_safety.specs.Tied.{Moves, machine, IsTrying, IsDoing, IsRunning, HostAt, TiedBut, Tied}
use Rattle.attempt.specs.Votes.{IsLong}
use Rattle.world_safety.proofs.Blocks.Keeping.{spares_same, knows_spared}
use Rattle.world_safety.proofs.Moves.Beside.{IsNoAttempt, SaysNoneOfLog, TriesNone}
use Rattle.world_safety.proofs.Moves.Machines.{machine_is, machine_here, machine_there, machine_learn, machine_restart, history_more, learned_more}
use Rattle.world_safety.proofs.Blocks.Standing.{stands_same}
use Rattle.attempt.proofs.Votes.{votes_none}

-- A HOST STAYS WHERE IT IS

-- the host is the same in each machine
abbrev pub SameHosts : Moves → Moves → ℕ → Type 0
SameHosts ms ms' g = (k : ℕ) → IsSameHost g (machine ms k) (machine ms' k)

-- what its attempt knows stays
abbrev pub KeepsKnown : Shape → World → World → Moves → Moves → ℕ → Type 0
KeepsKnown c w w' ms ms' g =
    (m : Memory) (operation : Operation) (f : Answers) (d : ℕ) → length m.learned < c.slots → g < HOSTS
    → Knows (w.disk d) (setup_of c g m operation) f d ((machine ms (length m.learned)).cell g d)
    → Knows (w'.disk d) (setup_of c g m operation) f d ((machine ms' (length m.learned)).cell g d)

-- and what its marking knows
abbrev pub KeepsMarking : Shape → World → World → ℕ → Type 0
KeepsMarking c w w' g = (s : mark.Setup) (a : List Heard) (d : ℕ) → s.host ≡ g → s.slot < c.slots → g < HOSTS → KnowsMark (w.disk d) s a → KnowsMark (w'.disk d) s a

module _ (c : Shape) (w w' : World) (ms ms' : Moves) (g : ℕ) (same : SameHosts ms ms' g) (learned : (slots_after ms').learned g ≡ (slots_after ms).learned g) (keeps : KeepsKnown c w w' ms ms' g) (marking : KeepsMarking c w w' g) where
  doing_kept : (m : Memory) → g < HOSTS → (o : Option Doing) → IsDoing c w ms g m o → IsDoing c w' ms' g m o
  doing_kept m below (Some (Attempts t)) is =
      record {
        fits = is.fits;
        follows = follows_same (setup_of c g m t.operation) (machine ms (length m.learned)) (machine ms' (length m.learned)) (same (length m.learned)) t.heard is.follows;
        knows = λ d. keeps m t.operation (on t.heard) d is.fits below (is.knows d);
        votes = is.votes;
        input = is.input;
      }
  doing_kept m below (Some (Marks t)) is =
      record { learned = is.learned; fits = is.fits; knows = λ d. marking (marking_of c g m t.slot) (on t.heard d) d refl is.fits below (is.knows d); votes = is.votes }
  doing_kept m below other is = tt

  pub host_kept : (host : Host) → HostAt c w ms g host → HostAt c w' ms' g host
  host_kept Stopped is = learned ∙ is
  host_kept (Running m) is = record { below = is.below; learned = learned ∙ is.learned; doing = doing_kept m is.below m.doing is.doing }

-- BY MOVES ALONE

-- no block changes
abbrev pub SameBlocks : Moves → Moves → Type 0
SameBlocks ms ms' = (k g d : ℕ) → IsSameBlock ((machine ms k).cell g d) ((machine ms' k).cell g d)

pub keeps_known : (c : Shape) (w : World) (ms ms' : Moves) → ((d : ℕ) → IsImage cluster_version c.slots (w.disk d)) → SameBlocks ms ms' → (g : ℕ) → KeepsKnown c w w ms ms' g
keeps_known c w ms ms' images same g m operation f d fits below known =
    let s = setup_of c g m operation in
    knows_spared c.slots s f d (w.disk d) (w.disk d) ((machine ms (length m.learned)).cell g d) ((machine ms' (length m.learned)).cell g d) (images d) fits below (spares_same _ (w.disk d)) (same (length m.learned) g d) known

-- moves of one host leave the others
pub but_moves : (c : Shape) (w : World) (ms ms' : Moves) (h : ℕ) → TiedBut c w ms h → IsHistory c.disks ms' → SameBlocks ms ms' → ((g : ℕ) → g ≢ h → SameHosts ms ms' g)
    → ((g : ℕ) → g ≢ h → (slots_after ms').learned g ≡ (slots_after ms).learned g) → TiedBut c w ms' h
but_moves c w ms ms' h is history blocks hosts learned =
    record {
      history = history;
      images = is.images;
      stands = λ slot g d slot_below below. stands_same (w.disk d) slot g ((machine ms slot).cell g d) ((machine ms' slot).cell g d) (blocks slot g d) (is.stands slot g d slot_below below);
      others = λ g off. host_kept c w w ms ms' g (hosts g off) (learned g off) (keeps_known c w ms ms' is.images blocks g) (λ s a d host fits below known. known) (w.host g) (is.others g off);
    }

pub same_host : (g : ℕ) (m : Machine) → IsSameHost g m m
same_host g m = record { mind = refl; stages = λ d. refl }

pub host_by : (g : ℕ) (m n o : Machine) → n ≡ o → IsSameHost g m o → IsSameHost g m n
host_by g m n o is same = subst (IsSameHost g m) (sym is) same

pub blocks_by : (g d : ℕ) (m n o : Machine) → n ≡ o → IsSameBlock (m.cell g d) (o.cell g d) → IsSameBlock (m.cell g d) (n.cell g d)
blocks_by g d m n o is same = subst (λ (k : Machine). IsSameBlock (m.cell g d) (k.cell g d)) (sym is) same

-- AN ATTEMPT BEGINS

module _ (c : Shape) (w : World) (ms : Moves) (h n : ℕ) where
  abbrev begun : Moves
  begun = ms ++ At n (Starts h) ∷ []

  -- in its slot, and in the others
  begun_at : (P : Machine → Machine → Type 0) (k : ℕ) → ((m : Machine) → P m (after m (Starts h))) → ((m : Machine) → P m m) → P (machine ms k) (machine begun k)
  begun_at P k here there = elim (cases_eq k n) [
    | inl same ↦ subst (P (machine ms k)) (sym (subst (λ (j : ℕ). machine begun j ≡ after (machine ms j) (Starts h)) (sym same) (machine_here n ms (Starts h ∷ [])))) (here (machine ms k))
    | inr off ↦ subst (P (machine ms k)) (sym (machine_there k n ms (Starts h ∷ []) off)) (there (machine ms k))
  ]

  pub but_begins : TiedBut c w ms h → TiedBut c w begun h
  but_begins is =
      but_moves c w ms begun h is (history_more c.disks ms (At n (Starts h)) is.history (tt, tt))
      (λ k g d. begun_at (λ (old new : Machine). IsSameBlock (old.cell g d) (new.cell g d)) k (blocks_starting g h d) (λ m. block_same (m.cell g d)))
      (λ g off k. begun_at (IsSameHost g) k (λ m. by_starting g h m off) (same_host g))
      (λ g off. ap (λ (l : ℕ → List (List ℕ)). l g) (learned_same n ms (Starts h ∷ [])))

first_kind : (kind : Kind) (P : Kind → Type 0) → Some Attaching ≡ Some kind → P Attaching → P kind
first_kind kind P is p = let same : Attaching ≡ kind = cc in subst P same p

pub begins_trying : (c : Shape) (w : World) (ms : Moves) (h : ℕ) (m : Memory) (operation : Operation) (tries : ℕ) → length m.learned < c.slots → IsLong cluster_version (input_of operation)
    → IsTrying c w (ms ++ At (length m.learned) (Starts h) ∷ []) h (begins m operation tries) (record { operation = operation; tries = tries; heard = [] })
begins_trying c w ms h m operation tries fits long =
    let s = setup_of c h m operation in
    record {
      fits = fits;
      follows = subst (λ (es : List (Event (List ℕ))). Follows s [] (state_after es)) (sym (events_here (length m.learned) ms (Starts h ∷ []))) (follows_first s (events_of_slot (length m.learned) ms));
      knows = λ d. record { boot = omega arith; next = λ current kind is. first_kind kind (λ k. KnowsFor k (w.disk d) s (on []) d ((machine (ms ++ At (length m.learned) (Starts h) ∷ []) (length m.learned)).cell h d)) is tt };
      votes = λ d. votes_none cluster_version;
      input = long;
    }

-- WHAT A HOST'S MOVES ARE

-- its slot was found empty, which it was trying
pub record FoundEmpty (c : Shape) (ms : Moves) (h : ℕ) (trying : Option ℕ) (slot : ℕ) : Type 0 where
  pub empty : IsEmpty c.disks (machine ms slot) h
  pub tried : trying ≡ Some slot

-- The host has come to this memory by a few moves: it puts in nothing; an attempt that is under way then has begun with them, where it
-- was not under way before, on this slot; and a recovery that ends with them has all slots, or found its slot empty.
pub record Late (c : Shape) (w : World) (ms : Moves) (h : ℕ) (trying : Option ℕ) (m : Memory) : Type 0 where
  pub late : Moves
  pub tied : TiedBut c w (ms ++ late) h
  pub running : IsRunning c w (ms ++ late) h m
  pub quiet : (k : ℕ) (v : List ℕ) → IsInput (events_of_slot k late) v → ⊥
  pub begun : (t : Attempt) → m.doing ≡ Some (Attempts t) → (trying ≡ Some (length m.learned)) ⊎ Has late (At (length m.learned) (Starts h))
  pub empty : (n : ℕ) → m.said ≡ Some (Recovered n) → (c.slots ≤ length m.learned) ⊎ FoundEmpty c (ms ++ late) h trying (length m.learned)

-- by none, where it goes on with its attempt, or tries none
pub stays_late : (c : Shape) (w : World) (ms : Moves) (h : ℕ) (trying : Option ℕ) (m : Memory) → TiedBut c w ms h → IsRunning c w ms h m → ((t : Attempt) → m.doing ≡ Some (Attempts t) → trying ≡ Some (length m.learned))
    → ((n : ℕ) → m.said ≡ Some (Recovered n) → (c.slots ≤ length m.learned) ⊎ FoundEmpty c ms h trying (length m.learned)) → Late c w ms h trying m
stays_late c w ms h trying m tied running begun empty =
    let none = sym (append-nil ms) in
    record {
      late = [];
      tied = subst (λ (l : Moves). TiedBut c w l h) none tied;
      running = subst (λ (l : Moves). IsRunning c w l h m) none running;
      quiet = λ k v input. input;
      begun = λ t does. inl (begun t does);
      empty = λ n is. subst (λ (l : Moves). (c.slots ≤ length m.learned) ⊎ FoundEmpty c l h trying (length m.learned)) none (empty n is);
    }

pub rests_late : (c : Shape) (w : World) (ms : Moves) (h : ℕ) (trying : Option ℕ) (m : Memory) → TiedBut c w ms h → IsRunning c w ms h m → TriesNone m → Late c w ms h trying m
rests_late c w ms h trying m tied running none =
    stays_late c w ms h trying m tied running (λ t does. absurd (subst IsNoAttempt does none.0)) (λ n is. absurd (subst SaysNoneOfLog is none.1))

module _ (c : Shape) (w : World) (ms : Moves) (h : ℕ) (m : Memory) (tied : TiedBut c w ms h) (below : h < HOSTS) (learned : (slots_after ms).learned h ≡ map spelling m.learned) (trying : Option ℕ) where
  -- it says something, and is idle
  pub says_late : (said : HostAnswer) (floor : ℕ) → ((n : ℕ) → said ≡ Recovered n → (c.slots ≤ length m.learned) ⊎ FoundEmpty c ms h trying (length m.learned))
      → Late c w ms h trying (record { learned = m.learned; floor = floor; doing = None; said = Some said; readings = m.readings })
  says_late said floor empty =
      stays_late c w ms h trying (record { learned = m.learned; floor = floor; doing = None; said = Some said; readings = m.readings }) tied (record { below = below; learned = learned; doing = tt })
      (λ t is. absurd (cc))
      (λ n is. empty n (let same : said ≡ Recovered n = cc in same))

  no_input : (n k : ℕ) (v : List ℕ) → IsInput (events_of_slot k (At n (Starts h) ∷ [])) v → ⊥
  no_input n k v = go (k == n)
    where
      go : (t : Bool) → IsInput (cond t (Starts h ∷ []) [] ++ []) v → ⊥
      go true input = elim input [ inl put ↦ put | inr rest ↦ rest ]
      go false input = input

  -- it begins an attempt on its next slot
  pub begins_late : (operation : Operation) (tries : ℕ) → length m.learned < c.slots → IsLong cluster_version (input_of operation) → Late c w ms h trying (begins m operation tries)
  begins_late operation tries fits long =
      record {
        late = At (length m.learned) (Starts h) ∷ [];
        tied = but_begins c w ms h (length m.learned) tied;
        running = record {
          below = below;
          learned = ap (λ (l : ℕ → List (List ℕ)). l h) (learned_same (length m.learned) ms (Starts h ∷ [])) ∙ learned;
          doing = begins_trying c w ms h m operation tries fits long;
        };
        quiet = no_input (length m.learned);
        begun = λ t is. inr ([], [], refl);
        empty = λ n is. absurd (cc);
      }

  -- or all slots are learned
  pub goes_on_late : (operation : Operation) (tries : ℕ) → IsLong cluster_version (input_of operation) → Late c w ms h trying (goes_on c m operation tries)
  goes_on_late operation tries long = go (nat_lt (length m.learned) c.slots) refl
    where
      go : (t : Bool) → nat_lt (length m.learned) c.slots ≡ t → Late c w ms h trying (if t then begins m operation tries else says m (full_answer operation (length m.learned)))
      go true fits = begins_late operation tries (ltb-true (length m.learned) c.slots fits) long
      go false full = says_late (full_answer operation (length m.learned)) m.floor (λ n is. inl (ltb-false (length m.learned) c.slots full))

-- A VALUE IS LEARNED

module _ (c : Shape) (w : World) (ms : Moves) (h : ℕ) (m : Memory) (tied : TiedBut c w ms h) (learned : (slots_after ms).learned h ≡ map spelling m.learned) (ballot : ℕ) (value : List ℕ) (command : Command) (spelled : value ≡ spelling command)
    (chosen : IsChosenBy c.disks (machine ms (length m.learned)) ballot value) where
  abbrev pub taught : Moves
  taught = ms ++ Learn h (length m.learned) ballot value ∷ []

  behind : length m.learned ≡ length ((slots_after ms).learned h)
  behind = sym (ap length learned ∙ length-map m.learned spelling)

  learned_now : (slots_after taught).learned ≡ (moved (slots_after ms) (Learn h (length m.learned) ballot value)).learned
  learned_now = learned_more ms (Learn h (length m.learned) ballot value)

  pub but_learns : TiedBut c w taught h
  but_learns =
      but_moves c w ms taught h tied
      (history_more c.disks ms (Learn h (length m.learned) ballot value) tied.history (behind, subst (λ (n : Machine). IsChosenBy c.disks n ballot value) (sym (machine_is ms (length m.learned))) chosen))
      (λ k g d. blocks_by g d (machine ms k) (machine taught k) (machine ms k) (machine_learn ms h (length m.learned) ballot value k) (block_same ((machine ms k).cell g d)))
      (λ g off k. host_by g (machine ms k) (machine taught k) (machine ms k) (machine_learn ms h (length m.learned) ballot value k) (same_host g (machine ms k)))
      (λ g off. ap (λ (l : ℕ → List (List ℕ)). l g) learned_now ∙ put_other (slots_after ms).learned h _ g off)

  pub learned_then : (slots_after taught).learned h ≡ map spelling (m.learned ++ command ∷ [])
  learned_then =
      ap (λ (l : ℕ → List (List ℕ)). l h) learned_now
      ∙ put_same (slots_after ms).learned h ((slots_after ms).learned h ++ value ∷ [])
      ∙ ap (λ (l : List (List ℕ)). l ++ value ∷ []) learned
      ∙ ap (λ (v : List ℕ). map spelling m.learned ++ v ∷ []) spelled
      ∙ sym (map-append spelling m.learned (command ∷ []))

  -- and then more
  pub learns_late : (trying : Option ℕ) (new : Memory) → Late c w taught h trying new → Late c w ms h trying new
  learns_late trying new is =
      let regroup : taught ++ is.late ≡ ms ++ (Learn h (length m.learned) ballot value ∷ is.late) = append_assoc ms (Learn h (length m.learned) ballot value ∷ []) is.late in
      record {
        late = Learn h (length m.learned) ballot value ∷ is.late;
        tied = subst (λ (l : Moves). TiedBut c w l h) regroup is.tied;
        running = subst (λ (l : Moves). IsRunning c w l h new) regroup is.running;
        quiet = is.quiet;
        begun = λ t does. elim (is.begun t does) [
          | inl before ↦ inl before
          | inr has ↦ inr (Learn h (length m.learned) ballot value ∷ has.0, has.1, ap (λ (l : Moves). Learn h (length m.learned) ballot value ∷ l) has.2)
        ];
        empty = λ n said. subst (λ (l : Moves). (c.slots ≤ length new.learned) ⊎ FoundEmpty c l h trying (length new.learned)) regroup (is.empty n said);
      }

-- ALL TOGETHER

pub tied_but : (c : Shape) (w : World) (ms : Moves) (h : ℕ) → Tied c w ms → TiedBut c w ms h
tied_but c w ms h is = record { history = is.history; images = is.images; stands = is.stands; others = λ g off. is.hosts g }

-- a host stands as well where only another has changed
pub in_with : (c : Shape) (w : World) (ms : Moves) (h g : ℕ) (becomes : ℕ → Host) (host : Host) → HostAt c w ms g host → HostAt c (with_host w h becomes) ms g host
in_with c w ms h g becomes host at = host_kept c w (with_host w h becomes) ms ms g (λ k. same_host g (machine ms k)) refl (λ m operation f d fits below known. known) (λ s a d host fits below known. known) host at

-- the one host has come to where it stands
pub tied_with : (c : Shape) (w : World) (ms : Moves) (h : ℕ) (becomes : ℕ → Host) → TiedBut c w ms h → HostAt c w ms h (becomes h) → Tied c (with_host w h becomes) ms
tied_with c w ms h becomes is at =
    record {
      history = is.history;
      images = is.images;
      stands = is.stands;
      hosts = λ g. by_eq (λ t. HostAt c (with_host w h becomes) ms g (cond t (becomes g) (w.host g))) h g
          (λ same. subst (λ (j : ℕ). HostAt c (with_host w h becomes) ms j (becomes j)) same (in_with c w ms h h becomes (becomes h) at))
          (λ ne. in_with c w ms h g becomes (w.host g) (is.others g (λ same. ne (sym same))));
    }

-- A HOST STOPS

module _ (c : Shape) (w : World) (ms : Moves) (h : ℕ) (is : TiedBut c w ms h) where
  abbrev pub stopped : Moves
  stopped = ms ++ Restart h ∷ []

  pub but_stops : TiedBut c w stopped h
  but_stops =
      but_moves c w ms stopped h is (history_more c.disks ms (Restart h) is.history tt)
      (λ k g d. blocks_by g d (machine ms k) (machine stopped k) (after (machine ms k) (Stops h)) (machine_restart ms h k) (blocks_stopping g h d (machine ms k)))
      (λ g off k. host_by g (machine ms k) (machine stopped k) (after (machine ms k) (Stops h)) (machine_restart ms h k) (by_stopping g h (machine ms k) off))
      (λ g off. ap (λ (l : ℕ → List (List ℕ)). l g) (learned_more ms (Restart h)) ∙ put_other (slots_after ms).learned h [] g off)

  pub stops_learned : (slots_after stopped).learned h ≡ []
  stops_learned = ap (λ (l : ℕ → List (List ℕ)). l h) (learned_more ms (Restart h)) ∙ put_same (slots_after ms).learned h []

-- What a line tells: an entry of its event, and what the host of that says then.
use Rattle.std.specs.Prelude.{slice_get, slice_index_or, IsSome}
use Rattle.std.proofs.Common.{ℕ, zero, suc, ◌≡◌, Option, Some, None, List, [], ◌∷◌, ◌++◌, refl, sym, ap, subst}
use Rattle.paxos_block.specs.Shape.{Shape}
use Rattle.host.specs.declared.answer.HostAnswer.{HostAnswer}
use Rattle.host.specs.Host.{Host, Stopped, Running, said_of}
use Rattle.host.specs.Kept as hosts
use Rattle.world.specs.Entry.{Filled}
use Rattle.world.specs.World.{world}
use Rattle.world.specs.Happens.{Line, host_of, line, lines_after, lines_at, entry_of, with_entry, happens, Event}
use Rattle.simulator.specs.declared.simulated_cluster.Said.{Said}
use Rattle.simulator.specs.Kept.{Kept, IsHost, LeadsTo, Brings}

-- the entry behind a line, whose host says what the line has
pub record Behind (c : Shape) (log : List Filled) (place : ℕ) (o : Option Filled) (x : Line) : Type 0 where
  pub entry : Filled
  pub is : o ≡ Some entry
  pub at : x.place ≡ place
  pub of : host_of entry ≡ Some x.host
  pub says : said_of ((world c (log ++ entry ∷ [])).host x.host) ≡ Some x.said

module _ (c : Shape) (log : List Filled) (place : ℕ) (f : Filled) where
  -- by what the host says, and by whose entry it is
  by_said : (h j : ℕ) (x : Line) (said : Option HostAnswer) → host_of f ≡ Some h → said_of ((world c (log ++ f ∷ [])).host h) ≡ said
      → slice_get (line place h said) j ≡ Some x → Behind c log place (Some f) x
  by_said h j x None of says is = absurd (cc)
  by_said h (suc j) x (Some said) of says is = absurd (cc)
  by_said h zero x (Some said) of says is =
      let made : Line = record { place = place; host = h; said = said } in
      let same : made ≡ x = cc in
      subst (Behind c log place (Some f)) same (record { entry = f; is = refl; at = refl; of = of; says = says })

  by_host_of : (o : Option ℕ) (j : ℕ) (x : Line) → host_of f ≡ o → slice_get (lines_after (world c (log ++ f ∷ [])) place o) j ≡ Some x → Behind c log place (Some f) x
  by_host_of None j x of is = absurd (cc)
  by_host_of (Some h) j x of is = by_said h j x (said_of ((world c (log ++ f ∷ [])).host h)) of refl is

pub behind : (c : Shape) (log : List Filled) (place : ℕ) (o : Option Filled) (j : ℕ) (x : Line) → slice_get (lines_at c log place o) j ≡ Some x → Behind c log place o x
behind c log place None j x is = absurd (cc)
behind c log place (Some f) j x is = by_host_of c log place f (host_of f) j x refl is

-- WHO SAYS SOMETHING RUNS

pub runs_by : (c : Shape) (h : ℕ) (x : Host) (o : Option hosts.Kept) (said : HostAnswer) → said_of x ≡ Some said → IsHost c h x o → IsSome o
runs_by c h Stopped o said says is = absurd (cc)
runs_by c h (Running m) None said says is = absurd is
runs_by c h (Running m) (Some k) said says is = refl

-- a host that says something with an event is kept then
pub speaker_runs : (log : List Filled) (event : Event) (old new : Kept) (said : Said) → Brings log event old new (Some said) → IsSome (slice_index_or new.hosts said.host None)
speaker_runs log event old new said brings =
    let c = old.shape in
    let x : Line = record { place = 0; host = said.host; said = said.answer } in
    let found = behind c log 0 (entry_of c (world c log) event) 0 x (ap (λ (l : List Line). slice_get l 0) (sym (brings.says 0))) in
    let after : happens c log event ≡ log ++ found.entry ∷ [] = ap (with_entry log) found.is in
    let leads : LeadsTo (log ++ found.entry ∷ []) new = subst (λ (l : List Filled). LeadsTo l new) after brings.leads in
    let host : IsHost new.shape said.host ((world c (log ++ found.entry ∷ [])).host said.host) (slice_index_or new.hosts said.host None) =
    subst (λ (s : Shape). IsHost new.shape said.host ((world s (log ++ found.entry ∷ [])).host said.host) (slice_index_or new.hosts said.host None)) brings.shape
    (leads.shows.hosts said.host) in
    runs_by new.shape said.host _ _ said.answer found.says host

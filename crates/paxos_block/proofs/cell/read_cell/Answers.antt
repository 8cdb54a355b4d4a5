use Rattle.std.proofs.Common.{◌≡◌, ◌∙◌, ℕ, List, Bool, sym, ap, arith, take, drop}
use Rattle.torn_block.specs.Layout.{Version}
use Rattle.paxos_block.specs.Row.{is_sound}
use Rattle.torn_block.specs.Damage.{first_of, second_of, is_damaged}
use Rattle.torn_block.proofs.DamageLaws.{damaged_tells, sound_block_tells}
use Rattle.paxos_block.proofs.RowLemmas.{sound_decides}
use Rattle.paxos_block.proofs.cell.read_cell.Goals as goal

-- the test of the two copies is that of the block
same : (v : Version) (host : ℕ) (bytes first second : List ℕ) (t : Bool) → first ≡ first_of v bytes → second ≡ second_of v bytes → t ≡ is_damaged (is_sound v host) first second → is_damaged (is_sound v host) (first_of v bytes) (second_of v bytes) ≡ t
same v host bytes first second t f s is =
    ap (λ (l : List ℕ). is_damaged (is_sound v host) l (second_of v bytes)) (sym f) ∙ ap (is_damaged (is_sound v host) first) (sym s) ∙ sym is

pub returns-then-is_damaged-clause-damaged : goal.returns-then-is_damaged-clause-damaged
returns-then-is_damaged-clause-damaged g c =
    let v = g.L.Layout.version in
    let host = c.args.host in
    let bytes = c.args.bytes.now in
    let copy = c.COPY_LENGTH.ensures ∙ g.met.L.Layout.copy_is in
    let first = c.split_at.ensures.front ∙ ap (λ (n : ℕ). take n bytes) copy in
    let second = c.split_at.ensures.back ∙ ap (λ (n : ℕ). drop n bytes) copy in
    damaged_tells (sound_decides v host) bytes c.requires (same v host bytes _ _ _ first second c.is_damaged.ensures ∙ c.if-is_damaged.true)

pub returns-clause-cell : goal.returns-clause-cell
returns-clause-cell g c =
    let v = g.L.Layout.version in
    let host = c.args.host in
    let bytes = c.args.bytes.now in
    let copy = c.COPY_LENGTH.ensures ∙ g.met.L.Layout.copy_is in
    let first = c.split_at.ensures.front ∙ ap (λ (n : ℕ). take n bytes) copy in
    let second = c.split_at.ensures.back ∙ ap (λ (n : ℕ). drop n bytes) copy in
    record {
      sound = sound_block_tells (sound_decides v host) bytes c.requires (λ i. omega (arith, c.type_inv.bytes i)) (same v host bytes _ _ _ first second c.is_damaged.ensures ∙ c.if-is_damaged.false);
      read = c.read_block-block.ensures;
      says = c.says_in-says.ensures bytes c.read_block-block.ensures first second;
    }

use Rattle.std.proofs.Common.{◌≡◌, Ok, Err, sym, ◌∙◌, true≢false}
use Rattle.folder_migration.proofs.Opened.{right_opened}
use Rattle.folder_migration.proofs.gate.gate_in.Goals as goal

pub returns-in_default-clause-open : goal.returns-in_default-clause-open
returns-in_default-clause-open c = (
  (λ is. absurd (cc)),
  (λ right.
      let header = c.args.header.now in
      let found = c.decode_header.ensures.only header (right_opened header.disk c.args.long c.args.bytes.now header right) in
      let both : Ok c.in-Ok.found ≡ Ok header = sym c.in-Ok.is ∙ found in
      let same : c.in-Ok.found ≡ header = cc in
      absurd (true≢false (sym (c.is_same.ensures.1 same) ∙ c.if-is_same.false))),
)

pub returns-in_default-2-clause-open : goal.returns-in_default-2-clause-open
returns-in_default-2-clause-open c = (
  (λ is. absurd (cc)),
  (λ right.
      let found = c.decode_header.ensures.only c.args.header.now (right_opened c.args.header.now.disk c.args.long c.args.bytes.now c.args.header.now right) in
      let never : Err c.in_default.field-0 ≡ Ok c.args.header.now = sym c.in_default.is ∙ found in absurd (cc)),
)

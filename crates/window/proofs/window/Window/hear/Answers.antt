use Rattle.window.proofs.Hearing.{write_told}
use Rattle.window.proofs.window.Window.hear.Goals as goal

pub returns-in-Write-clause-follows : goal.returns-in-Write-clause-follows
returns-in-Write-clause-follows c =
    (write_told c.args.self.now c.args.wanted.now.disk c.args.wanted.now.call c.in-Write.boot c.in-Write.at c.in-Write.bytes c.in-Write.is c.args.heard.now c.requires.own c.requires.fits).follows

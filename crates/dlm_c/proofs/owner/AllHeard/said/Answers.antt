use Rattle.std.proofs.Common.{◌≡◌, ◌∙◌, [], length, sym, ap, arith, length-set}
use Rattle.std.specs.Prelude.{Option}
use Rattle.std.specs.Option.{unwrap_or}
use Rattle.std.proofs.lemmas.Option.{slice_get_within, slice_get-get_or}
use Rattle.dlm_c.specs.declared.owner.Heard.{Heard}
use Rattle.dlm_c.specs.Owners.{said_by}
use Rattle.c_host.proofs.Shown.{all_go, goes_put}
use Rattle.dlm_c.proofs.owner.AllHeard.said.Goals as goal

pub loop-disk-preserved : goal.loop-disk-preserved
loop-disk-preserved c =
    let all = c.args.self.now.all in
    let disk = c.loop-disk.disk in
    let blank : Heard = record { is_heard = 0; name = record { bytes = [] } } in
    record {
      all = length-set c.loop-disk.said disk c.said.result ∙ c.loop-disk.invariant.all;
      said = goes_put (λ k said heard. said ≡ said_by heard) c.loop-disk.said all disk c.said.result (λ r there.
          let same = sym (slice_get-get_or all disk blank (slice_get_within all disk r there)) ∙ there in
          c.said.ensures ∙ ap said_by (ap (λ (o : Option Heard). unwrap_or o blank) same)) c.loop-disk.invariant.said;
    }

pub returns : goal.returns
returns c =
    let same : length c.loop-disk.said ≡ length c.args.self.now.all = omega (arith, c.loop-disk.invariant.all) in
    all_go said_by c.loop-disk.said c.args.self.now.all same (λ k v r at there.
    let within = slice_get_within c.loop-disk.said k v at in
    c.loop-disk.invariant.said k v r (omega (arith, within, c.loop-disk.invariant.all, c.loop-disk-test.false, c.from-disk-end.ensures)) at there)

use Rattle.std.proofs.Common.{rules, ◌∙◌, refl}
use Rattle.attempt.specs.Looking.{OnlyReads}
use Rattle.torn_block.specs.declared.layout.TheConstants.{HEADER_LENGTH}
use Rattle.folders.specs.Finishing.{none, more}
use Rattle.folders.specs.Formatting.{nothing}
use Rattle.folders.proofs.Laying.{on_err, together}
use Rattle.log_folders.proofs.unfinished.reads_zeros.Goals as goal

pub loop-at-init : goal.loop-at-init
loop-at-init g c = record { within = c.requires.header; device = refl; zeros = none HEADER_LENGTH c.args.device.now; read = nothing c.args.device.now }

pub returns-in_err-reads_zeros_at-clause-read : goal.returns-in_err-reads_zeros_at-clause-read
returns-in_err-reads_zeros_at-clause-read g c = together g.D.Disk.gives OnlyReads c.args.device.now c.loop-at.device c.reads_zeros_at.new.device c.loop-at.invariant.read c.reads_zeros_at.ensures.read

pub returns-then-not-branch-clause-read : goal.returns-then-not-branch-clause-read
returns-then-not-branch-clause-read g c = together g.D.Disk.gives OnlyReads c.args.device.now c.loop-at.device c.reads_zeros_at.new.device c.loop-at.invariant.read c.reads_zeros_at.ensures.read

pub loop-at-preserved : goal.loop-at-preserved
loop-at-preserved g c = record {
  within = search rules;
  device = c.reads_zeros_at.ensures.device ∙ c.loop-at.invariant.device;
  zeros = more HEADER_LENGTH c.loop-at.at _ c.args.device.now c.loop-at.device c.reads_zeros_at.new.device c.loop-at.invariant.zeros c.min-len.result (c.in_ok-reads_zeros_at.ensures.zeros (search rules)) refl;
  read = together g.D.Disk.gives OnlyReads c.args.device.now c.loop-at.device c.reads_zeros_at.new.device c.loop-at.invariant.read c.reads_zeros_at.ensures.read;
}

pub returns-in_err-reads_zeros_at-clause-failed : goal.returns-in_err-reads_zeros_at-clause-failed
returns-in_err-reads_zeros_at-clause-failed g c =
    on_err _ (record { at = c.loop-at.at; len = c.min-len.result; last = c.loop-at.device; zeros = c.loop-at.invariant.zeros; ends = c.in_err-reads_zeros_at.ensures.failed }) c.from_residual.result

pub returns-then-not-branch-clause-more : goal.returns-then-not-branch-clause-more
returns-then-not-branch-clause-more g c = λ is. record { at = c.loop-at.at; len = c.min-len.result; last = c.loop-at.device; zeros = c.loop-at.invariant.zeros; ends = c.in_ok-reads_zeros_at.ensures.more (search rules) }

use Rattle.std.proofs.Common.{subst}
use Rattle.torn_block.specs.Layout.{Version1}
use Rattle.attempt.specs.Heard.{Fits}
use Rattle.attempt.specs.DeviceCalls.{device_answer, call_of_need}
use Rattle.folder_migration.proofs.Recovering.{heard_same, leads_as, alone_as}
use Rattle.folder_migration.proofs.old_log.call.Goals as goal

pub returns-clause-made : goal.returns-clause-made
returns-clause-made g c =
    let due = call_of_need Version1 c.call-need.result in
    let same = heard_same c.answer_among-heard.result in record {
      made = record { disk = due.0; call = due.1; answer = device_answer c.answer_among-heard.result };
      gave = c.answer_among-heard.ensures.gave;
      due = λ s m leads. record { next = c.call-need.ensures.next s 0 m leads; fits = subst (Fits due.1) same c.answer_among-heard.ensures.fits };
      leads = λ s m leads. leads_as s m c.hear.new.self due _ _ _ c.call-need.ensures.due same (c.hear.ensures.leads s 0 m leads);
      alone = λ s m leads. alone_as s m due _ _ _ c.call-need.ensures.due same (c.hear.ensures.alone s 0 m leads);
    }

pub returns-clause-large : goal.returns-clause-large
returns-clause-large g c = c.answer_among-heard.ensures.large _ c.requires.large

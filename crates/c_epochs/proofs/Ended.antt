-- What C is told where a task has ended, from how the host says that it ended.
use Rattle.std.proofs.Common.{ℕ, Option, Some, None, inl, inr, refl}
use Rattle.disk.specs.Disk.{Call, Answer}
use Rattle.paxos_block.specs.Shape.{Shape}
use Rattle.epoch_deeds.specs.Deeds.{Deeds}
use Rattle.epoch_host.specs.declared.answer.EpochAnswer.{EpochAnswer}
use Rattle.epoch_host.specs.declared.answer.EpochAnswer.TheVariants.{Ack, Recovered, Looked, Beaten, Marked, Refused}
use Rattle.epoch_host.specs.declared.task.EpochTask.{EpochTask}
use Rattle.epoch_host.specs.declared.task.EpochTask.TheVariants.{Submit, Recover, Look, Beat, Mark}
use Rattle.epoch_host.specs.Ending.{EndsSo, HasEnded}
use Rattle.c_epochs.specs.Ends.{EndsAreTold, TellsEnd}
use Rattle.c_epochs.specs.Told.{answer_told, status_told}

tells_end : (c : Shape) (h : ℕ) (deeds : Deeds) (task : EpochTask) (said : EpochAnswer) → HasEnded c h deeds task said → TellsEnd c h deeds task (answer_told (Some said)) (status_told (Some said))
tells_end c h deeds task (Refused refusal) ended = inr (inl (record { refusal = refusal; is = ended; told = refl; returned = refl }))
tells_end c h deeds (Submit command tries) (Ack place reply) ended = inl (record { place = place; reply = reply; is = ended; told = refl; returned = refl })
tells_end c h deeds (Recover tries) (Recovered upto) ended = inl (record { upto = upto; is = ended; told = refl; returned = refl })
tells_end c h deeds Look (Looked upto) ended = inl (record { upto = upto; is = ended; told = refl; returned = refl })
tells_end c h deeds Beat (Beaten host) ended = inl (refl, refl)
tells_end c h deeds (Mark place) (Marked count) ended = inl (record { count = count; is = ended; told = refl; returned = refl })
tells_end c h deeds task other ended = absurd ended

tells_so : (c : Shape) (h : ℕ) (deeds : Deeds) (task : EpochTask) (said : Option EpochAnswer) → EndsSo c h deeds (Some task) said → TellsEnd c h deeds task (answer_told said) (status_told said)
tells_so c h deeds task None ended = inr (inr (refl, refl))
tells_so c h deeds task (Some said) ended = tells_end c h deeds task said ended

pub ends_told : {D : Type 0} (gives : D → Call → Answer → D → Type 0) → EndsAreTold gives
ends_told gives task said old new worked = record {
  made = worked.made;
  gave = worked.gave;
  firsts = worked.firsts;
  leads = λ c h deeds leads.
      let did = worked.leads c h deeds leads in
      record { more = did.more; may = did.may; calls = did.calls; so = (did.so.leads, tells_so c h _ task said did.so.ended) };
}

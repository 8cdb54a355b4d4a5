use Rattle.dlm_tasks.proofs.without_end.begun.Goals as goal

pub returns-clause-begun : goal.returns-clause-begun
returns-clause-begun g c = record {
  shape = c.args.images.config;
  old = c.start_epoch_host-over.result;
  started = c.start_epoch_host-over.ensures.fresh;
  seen = c.look.ensures.looked.0;
  looks = c.look.ensures.looked.1;
}

use Rattle.in_place.proofs.MadeReady.{begun, made_ready, whole_in_the_end}
use Rattle.in_place.proofs.in_place_law.images_are_made_ready.Goals as goal

pub returns-clause-ready : goal.returns-clause-ready
returns-clause-ready c = λ set disk boot old looked ready long found made. made_ready set disk old looked long boot ready found made

pub returns-clause-begun : goal.returns-clause-begun
returns-clause-begun c = λ set disk boot old looked long found. begun set disk old looked long boot found

pub returns-clause-right : goal.returns-clause-right
returns-clause-right c = λ set disk due old looked ready new long found made all bytes may. whole_in_the_end set disk old looked long due ready new found made all bytes may

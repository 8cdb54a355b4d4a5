use Rattle.std.proofs.Common.{sym}
use Rattle.lock_script.proofs.WordLemmas.{next_word, next_behind, last_one, nothing_behind}
use Rattle.lock_script.proofs.words.Words.next.Goals as goal

pub returns-in-Some-clause-word : goal.returns-in-Some-clause-word
returns-in-Some-clause-word c = next_word c.self.inside.rest c.in_ok-rest.rest c.args.self.now (sym c.self.view_is) c.in_ok-rest.was c.in-Some.end c.in-Some.ensures

pub returns-in-Some-clause-behind : goal.returns-in-Some-clause-behind
returns-in-Some-clause-behind c = next_behind c.self.inside.rest c.in_ok-rest.rest c.args.self.now (sym c.self.view_is) c.in_ok-rest.was c.in-Some.end c.in-Some.ensures

pub returns-in-None-clause-word : goal.returns-in-None-clause-word
returns-in-None-clause-word c = last_one c.self.inside.rest c.in_ok-rest.rest c.args.self.now (sym c.self.view_is) c.in_ok-rest.was c.in-None.ensures

pub returns-in-None-clause-behind : goal.returns-in-None-clause-behind
returns-in-None-clause-behind c = nothing_behind c.self.inside.rest c.in_ok-rest.rest c.args.self.now (sym c.self.view_is) c.in_ok-rest.was c.in-None.ensures

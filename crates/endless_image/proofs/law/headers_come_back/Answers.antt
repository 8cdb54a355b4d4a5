use Rattle.endless_image.proofs.HeaderLaws.{encoded, one_header, no_older, no_older_marked}
use Rattle.endless_image.proofs.law.headers_come_back.Goals as goal

pub returns-clause-back : goal.returns-clause-back
returns-clause-back c = encoded

pub returns-clause-one : goal.returns-clause-one
returns-clause-one c = one_header

pub returns-clause-older : goal.returns-clause-older
returns-clause-older c = no_older

pub returns-clause-unfinished : goal.returns-clause-unfinished
returns-clause-unfinished c = no_older_marked

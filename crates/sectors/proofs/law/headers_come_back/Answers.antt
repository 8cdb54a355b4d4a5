use Rattle.sectors.proofs.HeaderLaws.{encoded, one_header, no_image, no_endless_image, not_older}
use Rattle.sectors.proofs.law.headers_come_back.Goals as goal

pub returns-clause-back : goal.returns-clause-back
returns-clause-back c = encoded

pub returns-clause-one : goal.returns-clause-one
returns-clause-one c = one_header

pub returns-clause-images : goal.returns-clause-images
returns-clause-images c = no_image

pub returns-clause-endless : goal.returns-clause-endless
returns-clause-endless c = no_endless_image

pub returns-clause-older : goal.returns-clause-older
returns-clause-older c = not_older

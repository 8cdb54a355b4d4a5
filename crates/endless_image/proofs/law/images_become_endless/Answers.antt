use Rattle.endless_image.specs.InPlace.{making}
use Rattle.endless_image.proofs.Extended.{found_old, found_marked, new_header, marked_refused, marked_unused, log_stays, rows_stay, first_stays}
use Rattle.endless_image.proofs.Before.{begins_still}
use Rattle.endless_image.proofs.Making.{moments_from, again_from, stops_within, leaves_crashed, made_from, finished_from}
use Rattle.endless_image.proofs.law.images_become_endless.Goals as goal

pub returns-clause-before : goal.returns-clause-before
returns-clause-before c = begins_still

pub returns-clause-moments : goal.returns-clause-moments
returns-clause-moments c = λ old start new boot is. moments_from old is.header boot start new is

pub returns-clause-again : goal.returns-clause-again
returns-clause-again c = λ old start new boot is. again_from old is.header boot start new is

pub returns-clause-stopped : goal.returns-clause-stopped
returns-clause-stopped c = λ old start new boot fault. stops_within (making boot) fault start new

pub returns-clause-crashed : goal.returns-clause-crashed
returns-clause-crashed c = leaves_crashed

pub returns-clause-made : goal.returns-clause-made
returns-clause-made c = λ old start new boot is. made_from old is.header boot start new is

pub returns-clause-finished : goal.returns-clause-finished
returns-clause-finished c = λ old start new boot is. finished_from old is.header boot start new is

pub returns-clause-header : goal.returns-clause-header
returns-clause-header c = λ disk header old bytes is. new_header disk header old is bytes

pub returns-clause-marked : goal.returns-clause-marked
returns-clause-marked c = λ v disk named long header old bytes is. marked_refused disk header old is v named long bytes

pub returns-clause-unused : goal.returns-clause-unused
returns-clause-unused c = λ disk named long header said old bytes is. marked_unused disk header old is named long said bytes

pub returns-clause-log : goal.returns-clause-log
returns-clause-log c = λ disk header old bytes spot is. log_stays disk header old is bytes spot

pub returns-clause-rows : goal.returns-clause-rows
returns-clause-rows c = λ disk header old bytes slot is. rows_stay disk header old is bytes slot

pub returns-clause-first : goal.returns-clause-first
returns-clause-first c = λ disk header old bytes is. first_stays disk header old is bytes

pub returns-clause-found_old : goal.returns-clause-found_old
returns-clause-found_old c = found_old

pub returns-clause-found_marked : goal.returns-clause-found_marked
returns-clause-found_marked c = λ disk header old bytes is. found_marked disk header old is bytes

-- What changes in a claim by what it hears: a move of the claim for each event.
use Rattle.std.specs.Prelude.{◌≡◌, ◌≢◌, ◌⊎◌, ℕ, ℤ, Some, None, IfSome}
use Rattle.lock_command.specs.declared.reply.Reply.{Reply}
use Rattle.session.specs.Bounds.{CannotFail, ComesNearer, IsOpening, IsPause, IsReading, MayPause}
use Rattle.session.specs.Keeping.{IsOnSame, Keeps, KeepsRelease, KeepsReleaseUntilOut}
use Rattle.session.specs.Moves.{Asks, AsksOn, BreaksOff, Chooses, GoesOn, KeepsGoal, KeepsValue, MovesOn, TellsSlot, reached}
use Rattle.session.specs.Outcomes.{EndsIn, IsBorneOut, IsFor, IsGivenUpFor, IsSlotOf, IsSubmitting, IsUnheard, RefusesFor, TellsFailure, TellsWhy}
use Rattle.session.specs.declared.claim.Choice.{Choice}
use Rattle.session.specs.declared.claim.Claim.{Claim}
use Rattle.session.specs.declared.claim.Sign.{Sign}
use Rattle.session.specs.declared.claim.Standing.TheVariants.{Asked, Leaving, Unasked}
use Rattle.session.specs.declared.claim.Step.TheVariants.{Dropping, Ended, Looking, Opening, Resting, Signing, Yielding}
use Rattle.session.specs.declared.claim.Then.{Then}
use Rattle.session.specs.declared.claim.Then.TheVariants.{AskAgain, End}
use Rattle.session.specs.declared.learned.Learned.{Learned}
use Rattle.session.specs.declared.outcome.Failure.{Failure}
use Rattle.session.specs.declared.outcome.Failure.TheVariants.{Broken, LogFull, NoLock, Outrun}
use Rattle.session.specs.declared.outcome.Outcome.{Outcome}
use Rattle.session.specs.declared.outcome.Outcome.TheVariants.{NotHeld}
use Rattle.session.specs.declared.outcome.Why.{Why}
use Rattle.session.specs.declared.outcome.Why.TheVariants as why
use Rattle.c_claims.specs.declared.event.Event.{Event}
use Rattle.c_claims.specs.declared.event.Event.TheVariants as event
use Rattle.c_claims.specs.Failures.{IsFailureOf}

-- BY WHAT A HOST HAS LEARNED

-- The folder is open.
pub record Opens (l : Learned) (old new : Claim) : Type 0 where
  pub borne_out : IsBorneOut l new
  pub nearer : ComesNearer old new
  pub out_of_turn : (IsOpening old.step → ⊥) → BreaksOff (reached old) new
  pub moves : MovesOn l old new
  pub goal : KeepsGoal old new
  pub value : KeepsValue old new
  pub keeps : Keeps old new
  pub release : KeepsReleaseUntilOut l old new

-- So much is learned. A number may be chosen to ask by. It pauses only where no process that is gone holds the name, and the log is not full.
pub record Learns (l : Learned) (old new : Claim) : Type 0 where
  pub borne_out : IsBorneOut l new
  pub nearer : ComesNearer old new
  pub pauses : IsPause new.step → MayPause l
  pub out_of_turn : (IsReading old.step → ⊥) → BreaksOff old new
  pub moves : MovesOn l old new ⊎ Chooses l old new
  pub goal : KeepsGoal old new
  pub value : KeepsValue old new
  pub keeps : Keeps old new
  pub release : KeepsReleaseUntilOut l old new

-- The command was carried out, with this reply. It may be told at which place the command stands that asked for the lock. It pauses only as above.
pub record IsReplied (reply : Reply) (l : Learned) (old new : Claim) : Type 0 where
  pub borne_out : IsBorneOut l new
  pub nearer : ComesNearer old new
  pub slot : (new.slot ≡ old.slot) ⊎ IfSome new.slot (IsSlotOf l old)
  pub pauses : IsPause new.step → MayPause l
  pub refused : (reason : Why) → old.standing ≡ Asked → EndsIn new (NotHeld reason) → RefusesFor reply reason
  pub given_up : (reason : Why) → old.standing ≡ Leaving → EndsIn new (NotHeld reason) → IsGivenUpFor old.goal reason
  pub out_of_turn : (IsSubmitting old.step → ⊥) → BreaksOff old new
  pub moves : MovesOn l old new ⊎ TellsSlot old new
  pub goal : KeepsGoal old new
  pub value : KeepsValue old new
  pub keeps : Keeps old (record new { slot = old.slot })
  pub release : KeepsReleaseUntilOut l old new

-- What was ordered could not be done, for this reason. If it ends it tells that, or why it was to end soon. But that a log is full which ends tells something of the
-- command.
pub record IsRefused (failed : Failure) (l : Learned) (old new : Claim) : Type 0 where
  pub borne_out : IsBorneOut l new
  pub nearer : ComesNearer old new
  pub moves : MovesOn l old new
  pub goal : KeepsGoal old new
  pub value : KeepsValue old new
  pub keeps : Keeps old new
  pub release : KeepsReleaseUntilOut l old new
  pub told : IsReading old.step → TellsFailure old failed new
  pub told_submitting : IsSubmitting old.step → failed ≢ LogFull → old.over ≡ None → IsFor old new (why.Failed failed)
  pub out_of_turn : (IsSubmitting old.step → ⊥) → (IsReading old.step → ⊥) → BreaksOff old new

-- The sign of life is this session's. The lock is asked for by the number that was chosen, or the operation ends, since it was to end soon.
pub record Signs (l : Learned) (old new : Claim) : Type 0 where
  pub borne_out : IsBorneOut l new
  pub nearer : ComesNearer old new
  pub asks : (choice : Choice) → old.step ≡ Signing choice → old.over ≡ None → Asks l choice old new
  pub submits : (choice : Choice) → old.step ≡ Signing choice → old.over ≡ None → IsSubmitting new.step
  pub ends : (choice : Choice) (over : Why) → old.step ≡ Signing choice → old.over ≡ Some over →
      EndsIn new (NotHeld over) × (new ≡ record old { lock = choice.lock; standing = Unasked; step = new.step })
  pub out_of_turn : ((choice : Choice) → old.step ≡ Signing choice → ⊥) → BreaksOff old new
  pub same : IsOnSame old new

-- The sign of life is somebody else's. The lock is asked for by another number.
pub record MeetsSign (l : Learned) (old new : Claim) : Type 0 where
  pub unheard : IsUnheard new
  pub nearer : ComesNearer old new
  pub again : (choice : Choice) → old.step ≡ Signing choice → AsksOn l (record old { standing = Unasked }) new
  pub out_of_turn : ((choice : Choice) → old.step ≡ Signing choice → ⊥) → BreaksOff old new
  pub goal : KeepsGoal old new
  pub value : KeepsValue old new
  pub same : IsOnSame old new

-- The sign of life is given up. The operation ends as was borne out when that was ordered, or the lock is asked for by another number.
pub record DropsSign (l : Learned) (old new : Claim) : Type 0 where
  pub ends : (sign : Sign) (outcome : Outcome) → old.step ≡ Dropping sign (End outcome) → new ≡ record old { step = Ended outcome }
  pub again : (sign : Sign) → old.step ≡ Dropping sign AskAgain → AsksOn l (record old { standing = Unasked; asked = None }) new
  pub out_of_turn : ((sign : Sign) (then : Then) → old.step ≡ Dropping sign then → ⊥) → BreaksOff old new
  pub goal : KeepsGoal old new
  pub value : KeepsValue old new
  pub nearer : ComesNearer old new
  pub other : ((sign : Sign) (outcome : Outcome) → old.step ≡ Dropping sign (End outcome) → ⊥) → IsUnheard new
  pub same : IsOnSame old new

-- WHERE NO TABLE CAN BE READ

-- Nothing could be opened, or heard, for this reason. Whatever the step leads to needs nothing heard. What may be in the log stays known, and nothing else
-- changes but how the operation goes on. If it ends since that failed, it tells that failure, or why it was to end soon.
pub record Closes (failed : Failure) (old new : Claim) : Type 0 where
  pub unheard : IsUnheard new
  pub nearer : ComesNearer old new
  pub moves : GoesOn old new
  pub goal : KeepsGoal old new
  pub value : KeepsValue old new
  pub keeps : Keeps old new
  pub release : KeepsRelease old new
  pub told : (CannotFail old.step → ⊥) → TellsFailure old failed new
  pub out_of_turn : CannotFail old.step → BreaksOff old new

-- The folder is open, and its host does not know the table yet. So the log is read next, unless the operation is to end soon. A lock that is to
-- be released is looked for all the same.
pub record OpensUnread (old new : Claim) : Type 0 where
  pub unheard : IsUnheard new
  pub reads : IsOpening old.step → old.over ≡ None → IsReading new.step
  pub leaves : old.step ≡ Opening → old.standing ≡ Leaving → new.step ≡ Looking
  pub told : (reason : Why) → IsOpening old.step → old.over ≡ Some reason → old.standing ≢ Leaving → TellsWhy new reason
  pub out_of_turn : (IsOpening old.step → ⊥) → BreaksOff (reached old) new
  pub nearer : ComesNearer old new
  pub moves : GoesOn old new
  pub goal : KeepsGoal old new
  pub value : KeepsValue old new
  pub keeps : Keeps old new
  pub release : KeepsRelease old new

-- What was ordered could not be done, for this reason. A command that was outrun is put into the log once more, after a pause.
pub record IsRefusedUnread (failed : Failure) (old new : Claim) : Type 0 where
  pub unheard : IsUnheard new
  pub nearer : ComesNearer old new
  pub moves : GoesOn old new
  pub goal : KeepsGoal old new
  pub value : KeepsValue old new
  pub keeps : Keeps old new
  pub release : KeepsRelease old new
  pub told : IsReading old.step → TellsFailure old failed new
  pub told_submitting : IsSubmitting old.step → old.over ≡ None → IsFor old new (why.Failed failed)
  pub yields : IsSubmitting old.step → old.over ≡ None → failed ≡ Outrun → new.step ≡ Yielding
  pub out_of_turn : (IsSubmitting old.step → ⊥) → (IsReading old.step → ⊥) → BreaksOff old new

-- The sign of life is given up. The operation ends as was borne out when that was ordered, or tells this failure, since the lock is asked for by no other number.
pub record DropsUnread (failed : Failure) (old new : Claim) : Type 0 where
  pub ends : (sign : Sign) (outcome : Outcome) → old.step ≡ Dropping sign (End outcome) → new ≡ record old { step = Ended outcome }
  pub again : (sign : Sign) → old.step ≡ Dropping sign AskAgain → GoesOn (record old { standing = Unasked; asked = None }) new
  pub told : (sign : Sign) → old.step ≡ Dropping sign AskAgain → TellsWhy new (why.Failed failed)
  pub out_of_turn : ((sign : Sign) (then : Then) → old.step ≡ Dropping sign then → ⊥) → BreaksOff old new
  pub goal : KeepsGoal old new
  pub value : KeepsValue old new
  pub other : ((sign : Sign) (outcome : Outcome) → old.step ≡ Dropping sign (End outcome) → ⊥) → IsUnheard new
  pub nearer : ComesNearer old new
  pub same : IsOnSame old new

-- ALL OF THEM

-- The claim hears this, by what a host has learned.
abbrev pub MovesBy : Event → Learned → Claim → Claim → Type 0
MovesBy event.Opened l old new = Opens l old new
MovesBy event.Learned l old new = Learns l old new
MovesBy (event.Replied reply) l old new = IsReplied reply l old new
MovesBy (event.Refused failed) l old new = IsRefused failed l old new
MovesBy event.Signed l old new = Signs l old new
MovesBy event.SignHeld l old new = MeetsSign l old new
MovesBy event.SignDropped l old new = DropsSign l old new
MovesBy event.Unknown l old new = Closes Broken old new

-- The same of a host whose lock table cannot be read, for this reason.
abbrev pub MovesUnread : Event → (unread : Failure) → Claim → Claim → Type 0
MovesUnread event.Opened unread old new = OpensUnread old new
MovesUnread event.Learned unread old new = IsRefusedUnread unread old new
MovesUnread (event.Replied reply) unread old new = IsRefusedUnread unread old new
MovesUnread (event.Refused failed) unread old new = IsRefusedUnread failed old new
MovesUnread event.Signed unread old new = Closes unread old new
MovesUnread event.SignHeld unread old new = Closes unread old new
MovesUnread event.SignDropped unread old new = DropsUnread unread old new
MovesUnread event.Unknown unread old new = Closes Broken old new

-- WHERE NO HOST IS OPEN

-- No sign of life could be taken.
pub record LacksSign (old new : Claim) : Type 0 where
  pub unheard : IsUnheard new
  pub nearer : ComesNearer old new
  pub moves : GoesOn old new
  pub goal : KeepsGoal old new
  pub value : KeepsValue old new
  pub keeps : Keeps old new
  pub release : KeepsRelease old new
  pub told : (choice : Choice) → old.step ≡ Signing choice → TellsFailure old NoLock new
  pub out_of_turn : ((choice : Choice) → old.step ≡ Signing choice → ⊥) → BreaksOff old new

-- A pause is over: the folder is opened next, under the host number where something is to be submitted. Nothing changes but what is done next.
pub record Rests (old new : Claim) : Type 0 where
  pub unheard : IsUnheard new
  pub opens : (milliseconds : ℕ) → old.step ≡ Resting milliseconds → IsOpening new.step
  pub submits : (milliseconds : ℕ) → old.step ≡ Resting milliseconds → (old.standing ≡ Unasked) ⊎ (old.standing ≡ Leaving) → new.step ≡ Opening
  pub rest : new ≡ record old { step = new.step }
  pub out_of_turn : (IsPause old.step → ⊥) → BreaksOff old new
  pub keeps : Keeps old new
  pub release : KeepsRelease old new

-- What C says where no host is open: 2 that a pause is over, 3 that a sign of life cannot be had, else why the folder could not be opened.
abbrev pub HearsAlone : ℕ → ℤ → Claim → Claim → Type 0
HearsAlone number status old new =
    ((number ≡ 2) × Rests old new) ⊎ ((number ≡ 3) × LacksSign old new)
    ⊎ ((number ≢ 2) × (number ≢ 3) × ((failed : Failure) × IsFailureOf status failed × Closes failed old new))

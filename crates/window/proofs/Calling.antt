-- What the core may call on its image.
use Rattle.std.proofs.Common.{ℕ, Option, Some, None}
use Rattle.torn_block.specs.Layout.{cluster_version}
use Rattle.attempt.specs.DeviceCalls.{device_call_of}
use Rattle.attempt.specs.declared.need.DeviceCall as code_call
use Rattle.attempt.specs.declared.need.DeviceCall.TheVariants as call
use Rattle.standings.specs.declared.epoch.Epoch.{Epoch}
use Rattle.standings.specs.Past.{Past, IsSureOf}
use Rattle.window.specs.declared.sight.Sight.{Sight}
use Rattle.window.specs.declared.window.Window.{Window}
use Rattle.window.specs.Calls.{IsOwn, length_of, sight_of}
use Rattle.window.specs.Hearing.{MayWant}
use Rattle.window.specs.Knows.{KnowsOf}
use Rattle.window.specs.Sights.{IsSureUnder}

-- a disk that is sure is so by its past
sure_by : (n : ℕ) (e : Epoch) (host boot : ℕ) (past : Past) (s : Option Sight) → KnowsOf n e host past s → IsSureUnder boot s → IsSureOf n e.area host e.number past
sure_by n e host boot past None knows sure = absurd sure
sure_by n e host boot past (Some s) knows sure = knows.sure sure.1

pub may_want : (w : Window) (disk : ℕ) (wanted : code_call.DeviceCall) → IsOwn (length_of w) w.standpoint.host (device_call_of cluster_version wanted) → MayWant w disk (device_call_of cluster_version wanted)
may_want w disk call.Attach own pasts follows ready = tt
may_want w disk (call.Sync boot) own pasts follows ready = tt
may_want w disk (call.Read boot at) own pasts follows ready = own
may_want w disk (call.Write boot at bytes) own pasts follows ready =
    record { row = own.0; is_row = own.1; within = (own.2, own.3); sure = sure_by (length_of w) w.standpoint.epoch w.standpoint.host boot.number (pasts disk) (sight_of w disk) (follows.sights disk) ready }

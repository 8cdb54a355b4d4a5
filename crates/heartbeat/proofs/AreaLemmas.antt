-- What an area says, by the test of its blocks.
use Rattle.std.proofs.Common.{ℕ, ◌<◌, ◌≡◌, List, length, Some, None, sym, ◌∙◌, arith}
use Rattle.std.proofs.lemmas.Bool.{cond-true, cond-false}
use Rattle.std.proofs.lemmas.List.{ext_get_or}
use Rattle.std.proofs.lemmas.List.FromFn.{length-map-range_with_len, get_or-map-range_with_len}
use Rattle.torn_block.specs.Layout.{cluster_version}
use Rattle.torn_block.specs.declared.layout.TheConstants.{HOSTS, ROW_LENGTH}
use Rattle.torn_block.specs.Numbers.{AreBytes}
use Rattle.torn_block.specs.Damage.{IsSoundBlock, block_of, has_damage}
use Rattle.torn_block.proofs.DamagedRows.{sound_has_none, damaged_has_some}
use Rattle.heartbeat.specs.Beat.{IsBeat, is_beat, area_said, counters_in, counter_of, IsDamagedArea, AreCounters}
use Rattle.heartbeat.proofs.BeatLaws.{beat_decides}

module _ (area : List ℕ) where
  module _ (long : length area ≡ ROW_LENGTH) where
    -- an area of sound blocks says them
    pub sound_area : ((host : ℕ) → host < HOSTS → IsSoundBlock cluster_version IsBeat (block_of cluster_version host area)) → area_said area ≡ Some area
    unfolding area_said
    sound_area sound = cond-false (has_damage cluster_version (λ host. is_beat) area) None (Some area) (sound_has_none beat_decides area long sound)

    -- one with a damaged block says nothing
    pub damaged_area : AreBytes area → IsDamagedArea area → area_said area ≡ None
    unfolding area_said
    damaged_area fits damage = cond-true (has_damage cluster_version (λ host. is_beat) area) None (Some area) (damaged_has_some beat_decides area long fits damage)

  -- counters that are those of each host are those of the area
  pub counters_are : (counters : List ℕ) → length counters ≡ HOSTS → AreCounters area counters → counters ≡ counters_in area
  counters_are counters many are =
      ext_get_or 0 counters (counters_in area) (many ∙ sym (length-map-range_with_len (λ host. counter_of (block_of cluster_version host area)) 0 HOSTS))
      (λ i below. (are i (omega arith)).counts ∙ sym (get_or-map-range_with_len (λ host. counter_of (block_of cluster_version host area)) 0 HOSTS i i 0 (omega arith) (omega arith)))

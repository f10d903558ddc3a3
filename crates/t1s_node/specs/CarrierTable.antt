-- The carrier reading: on after `rise` ticks in a row with energy, off after `fall` ticks in a row without.
use Rattle.std.specs.Prelude.{ℕ, ◌+◌, Bool, true, false, nat_le, if◌then◌else◌}
use Rattle.t1s_node.specs.declared.carrier.Carrier.{Carrier}

-- the reading at the start of a node
abbrev pub carrier_start : Carrier
carrier_start = record { on = false; run = 0 }

-- the reading, its run, whether there is energy, and after how many ticks it turns on and off
abbrev pub carrier_row : Bool → ℕ → Bool → ℕ → ℕ → Carrier
carrier_row false run false rise fall = record { on = false; run = 0 }
carrier_row true run true rise fall = record { on = true; run = 0 }
carrier_row false run true rise fall =
    if nat_le rise (run + 1) then record { on = true; run = 0 } else record { on = false; run = run + 1 }
carrier_row true run false rise fall =
    if nat_le fall (run + 1) then record { on = false; run = 0 } else record { on = true; run = run + 1 }

abbrev pub carrier_step : Carrier → Bool → ℕ → ℕ → Carrier
carrier_step c energy rise fall = carrier_row c.on c.run energy rise fall

-- The line of the first offence of a capture. Numbers are plain decimal.
use Rattle.std.specs.Prelude.{ℕ, List, [], ◌∷◌, codes, decimal}
use Rattle.t1s_capture.specs.declared.items.Refusal.{Refusal}
use Rattle.t1s_capture.specs.declared.items.Why.{Why}
use Rattle.t1s_capture.specs.declared.items.Why.TheVariants.{Magic, Version, NodeByte, CountZero, GapTwice, Group, Place, BurstLong, Truncated, AfterEnd, TooLong}
use Rattle.t1s_report.specs.Lines.{line}

-- the name of the reason of an offence
abbrev pub why_name : Why → List ℕ
why_name Magic = codes "Magic"
why_name Version = codes "Version"
why_name NodeByte = codes "NodeByte"
why_name CountZero = codes "CountZero"
why_name GapTwice = codes "GapTwice"
why_name Group = codes "Group"
why_name Place = codes "Place"
why_name BurstLong = codes "BurstLong"
why_name Truncated = codes "Truncated"
why_name AfterEnd = codes "AfterEnd"
why_name TooLong = codes "TooLong"

-- the line of the first offence of a capture
abbrev pub offence_line : Refusal → List ℕ
offence_line r = line (codes "refused" ∷ decimal r.offset ∷ why_name r.why ∷ [])

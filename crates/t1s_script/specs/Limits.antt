-- How much a script may hold beside its nodes.
use Rattle.std.specs.Prelude.{ℕ}

-- the most timed lines of a script
abbrev pub most_acts : ℕ
most_acts = 4096

-- the most draws that a script lists for a node
abbrev pub most_draws : ℕ
most_draws = 64

-- the greatest draw: the tenth backoff of a frame and each later one waits below 1024 slots (IEEE 802.3 clause 4.2.3.2.5)
abbrev pub last_draw : ℕ
last_draw = 1023

-- the most IDs that a node has beside that of its `node` line, and the most in all
abbrev pub most_further_ids : ℕ
most_further_ids = 3

abbrev pub most_ids : ℕ
most_ids = 4

-- the greatest ID of those
abbrev pub last_further_id : ℕ
last_further_id = 254

-- the longest stub, in whole bit times
abbrev pub longest_stub : ℕ
longest_stub = 31

-- the greatest distance of two nodes: the whole trunk and two of the longest stubs
abbrev pub most_span : ℕ
most_span = 317

-- the least and the most octets of a frame without its frame check sequence
abbrev pub shortest_offer : ℕ
shortest_offer = 14

abbrev pub longest_offer : ℕ
longest_offer = 1518

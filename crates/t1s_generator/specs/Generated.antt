-- The text that is made from a seed, a number of nodes and a number of frames. Every number in it comes from the
-- seed alone.
use Rattle.std.specs.Prelude.{ℕ, zero, suc, ◌+◌, ◌*◌, ◌%◌, List, [], ◌∷◌, ◌++◌, map, codes, decimal}
use Rattle.std.specs.List.{concat, join_with_byte, range_with_len}
use Rattle.hex.specs.Hex.{encode_lower}
use Rattle.rand_pcg.specs.Lcg.{Lcg, next, started, increment_of}
use Rattle.rand_pcg.specs.Pcg.{multiplier_64, pcg32}

-- ---- the words: a number of 32 bits each

-- the generator that the seed starts in stream 99, after so many words
unfoldable pub generator_after : ℕ → ℕ → Lcg
generator_after seed zero = started 64 multiplier_64 seed (increment_of 64 99)
generator_after seed (suc count) = next 64 multiplier_64 (generator_after seed count)

-- the word before which so many were drawn
unfoldable pub word : ℕ → ℕ → ℕ
word seed count = (pcg32 (generator_after seed count)).0

-- Each node takes one word, and after those of all nodes each frame takes four. This is a word of a frame, where so
-- many frames stand before it.
abbrev pub frame_word : ℕ → ℕ → ℕ → ℕ → ℕ
frame_word seed nodes before which = word seed (nodes + 4 * before + which)

-- ---- the numbers

-- the place of a node, in whole bit times
abbrev pub place_of : ℕ → ℕ → ℕ
place_of seed number = word seed number % 13

-- the tick of the last of so many frames, each of which comes up to 3999 ticks after the one before; 9000 without any
unfoldable pub tick_after : ℕ → ℕ → ℕ → ℕ
tick_after seed nodes zero = 9000
tick_after seed nodes (suc before) = tick_after seed nodes before + frame_word seed nodes before 0 % 4000

-- the number of the node to which a frame is offered, how many octets it has, and the octet that it is filled with
abbrev pub number_of_frame : ℕ → ℕ → ℕ → ℕ
number_of_frame seed nodes before = frame_word seed nodes before 1 % nodes

abbrev pub length_of_frame : ℕ → ℕ → ℕ → ℕ
length_of_frame seed nodes before = 14 + frame_word seed nodes before 2 % 200

abbrev pub octet_of_frame : ℕ → ℕ → ℕ → ℕ
octet_of_frame seed nodes before = frame_word seed nodes before 3 % 256

-- how many ticks the run has: 200,000 after the last frame
abbrev pub end_of_run : ℕ → ℕ → ℕ → ℕ
end_of_run seed nodes frames = tick_after seed nodes frames + 200000

-- ---- the lines

-- a line: its fields with a space between each two, and LF
abbrev pub line : List (List ℕ) → List ℕ
line fields = join_with_byte 32 fields ++ 10 ∷ []

-- what stands before the nodes
abbrev pub head_lines : ℕ → ℕ → List (List ℕ)
head_lines seed nodes =
    line (codes "t1s" ∷ codes "1" ∷ []) ∷ line (codes "count" ∷ decimal nodes ∷ []) ∷ line (codes "seed" ∷ decimal seed ∷ []) ∷ []

-- a node, whose number is also its ID
abbrev pub node_line : ℕ → ℕ → List ℕ
node_line seed number = line (codes "node" ∷ decimal number ∷ decimal number ∷ decimal (place_of seed number) ∷ [])

-- a frame, where so many frames stand before it; the octet is written as two hex digits in lower case
abbrev pub fill_line : ℕ → ℕ → ℕ → List ℕ
fill_line seed nodes before =
    line (codes "fill" ∷ decimal (tick_after seed nodes (before + 1)) ∷ decimal (number_of_frame seed nodes before)
    ∷ decimal (length_of_frame seed nodes before) ∷ encode_lower (octet_of_frame seed nodes before ∷ []) ∷ [])

abbrev pub end_line : ℕ → ℕ → ℕ → List ℕ
end_line seed nodes frames = line (codes "end" ∷ decimal (end_of_run seed nodes frames) ∷ [])

-- ---- the text

-- all lines: the nodes and the frames are counted from 0
abbrev pub generated_lines : ℕ → ℕ → ℕ → List (List ℕ)
generated_lines seed nodes frames =
    head_lines seed nodes ++ (map (node_line seed) (range_with_len 0 nodes)
    ++ (map (fill_line seed nodes) (range_with_len 0 frames) ++ end_line seed nodes frames ∷ []))

-- their octets
abbrev pub generated : ℕ → ℕ → ℕ → List ℕ
generated seed nodes frames = concat (generated_lines seed nodes frames)

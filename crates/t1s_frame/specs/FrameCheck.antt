-- The frame check sequence of a list of octets: CRC-32, bit by bit on numbers (IEEE 802.3 clause 3.2.9).
use Rattle.std.specs.Prelude.{ℕ, zero, suc, ◌-◌, ◌/◌, ◌%◌, ◌^◌, ◌==◌, if◌then◌else◌, List, [], ◌∷◌, ◌++◌, fold, bit_xor}

-- the generator polynomial, reflected: its term x^31 is the lowest bit
abbrev pub polynomial : ℕ
polynomial = 0xEDB88320

-- the remainder after one more bit: halved, and with the polynomial where the bit leaving differs from the bit entering
abbrev pub check_bit : ℕ → ℕ → ℕ
check_bit remainder bit =
    if remainder % 2 == bit then remainder / 2 else bit_xor (remainder / 2) polynomial

-- the lowest bits of a number, as many as counted, the low bit first
abbrev pub low_bits : ℕ → ℕ → List ℕ
low_bits zero x = []
low_bits (suc count) x = x % 2 ∷ low_bits count (x / 2)

-- the bits of octets, in the order of transmission: the low bit of each octet first
abbrev pub octet_bits : List ℕ → List ℕ
octet_bits [] = []
octet_bits (x ∷ xs) = low_bits 8 x ++ octet_bits xs

-- the frame check sequence: the remainder begins as all ones, and is complemented at the end
unfoldable pub frame_check : List ℕ → ℕ
frame_check octets = 2 ^ 32 - 1 - fold check_bit (2 ^ 32 - 1) (octet_bits octets)

-- the four octets of a frame check sequence, the low octet first
abbrev pub check_octets : ℕ → List ℕ
check_octets check = check % 256 ∷ check / 256 % 256 ∷ check / 65536 % 256 ∷ check / 16777216 % 256 ∷ []

-- What a piece is that was received.
use Rattle.std.specs.Prelude.{ℕ, ◌-◌, List, [], ◌∷◌, length, take, codes}
use Rattle.std.specs.List.{join_with_byte}
use Rattle.hex.specs.Hex.{encode_lower}
use Rattle.t1s_pcs_rx.specs.declared.piece.Kind.{Kind}
use Rattle.t1s_pcs_rx.specs.declared.piece.Kind.TheVariants.{Good, BadFcs, Odd, Runt, NoSfd, Errored, Jabber}

-- the octets of a frame before its frame check sequence, which is four octets
abbrev pub before_check : List ℕ → List ℕ
before_check frame = take (length frame - 4) frame

-- what a piece is: a good one with the octets of its frame in hexadecimal
abbrev pub kind_text : Kind → List ℕ → List ℕ
kind_text Good frame = join_with_byte 32 (codes "good" ∷ encode_lower (before_check frame) ∷ [])
kind_text BadFcs frame = codes "badfcs"
kind_text Odd frame = codes "odd"
kind_text Runt frame = codes "runt"
kind_text NoSfd frame = codes "nosfd"
kind_text Errored frame = codes "errored"
kind_text Jabber frame = codes "jabber"

-- Document 01, "House part P1": its 34 right ends, the start of each track beside them, and the rule that the table follows. Assumes nothing: these are definitions.
use Rattle.std.specs.Prelude.{Bool, cond, List, [], ◌∷◌, ℕ, ◌%◌, ltb, eqb}
use Rattle.part.specs.Part.{Part, part_of}

-- N = 30, T = 8; tracks 1–4: 5, 10, 15, 20, 25, 30; tracks 5–6: 10, 20, 30; tracks 7–8: 15, 30. Tracks 7 and 8 are performance tracks
abbrev pub p1_ends : List ℕ
p1_ends = 5 ∷ 10 ∷ 15 ∷ 20 ∷ 25 ∷ 30 ∷ 5 ∷ 10 ∷ 15 ∷ 20 ∷ 25 ∷ 30 ∷ 5 ∷ 10 ∷ 15 ∷ 20 ∷ 25 ∷ 30 ∷ 5 ∷ 10 ∷ 15 ∷ 20 ∷ 25 ∷ 30 ∷ 10 ∷ 20 ∷ 30 ∷ 10 ∷ 20 ∷ 30 ∷ 15 ∷ 30 ∷ 15 ∷ 30 ∷ []

abbrev pub p1_starts : List ℕ
p1_starts = 0 ∷ 6 ∷ 12 ∷ 18 ∷ 24 ∷ 27 ∷ 30 ∷ 32 ∷ 34 ∷ []

abbrev pub p1 : Part
p1 = part_of 30 6 p1_starts p1_ends

-- the length of the group that the track with code t is of
unfoldable pub p1_length : ℕ → ℕ
p1_length t = cond (ltb t 4) 5 (cond (ltb t 6) 10 15)

-- its rule: a right end at every column that is divisible by the group's length
unfoldable pub p1_rule : ℕ → ℕ → Bool
p1_rule t c = eqb (c % p1_length t) 0

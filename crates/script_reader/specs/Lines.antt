-- The lines of a script, and the words of a line.
use Rattle.std.specs.Prelude.{ℕ, Bool, true, false, not, ◌-◌, ◌||◌, ◌==◌, List, [], ◌∷◌, drop, filter, length, map, slice_index, take, if◌then◌else◌}
use Rattle.std.specs.List.{before_first, position_or_len, slice_split, suffix_len}

-- the bytes without their last one, where it is this byte
abbrev pub without_last : ℕ → List ℕ → List ℕ
without_last byte bytes = if slice_index bytes (length bytes - 1) == byte then take (length bytes - 1) bytes else bytes

abbrev pub is_line_feed : ℕ → Bool
is_line_feed byte = byte == 10

abbrev pub carriage_return : ℕ
carriage_return = 13

-- the lines: each ends with LF or with the file, a CR before that end is passed over, and the file's last LF starts no further line
abbrev pub lines_of : List ℕ → List (List ℕ)
lines_of bytes = map (without_last carriage_return) (slice_split is_line_feed (without_last 10 bytes))

-- a space or a tab
abbrev pub is_blank : ℕ → Bool
is_blank byte = (byte == 32) || (byte == 9)

abbrev pub is_not_blank : ℕ → Bool
is_not_blank byte = not (is_blank byte)

abbrev pub is_word : List ℕ → Bool
is_word [] = false
is_word (byte ∷ bytes) = true

-- the words, parted by spaces or tabs
abbrev pub words_of : List ℕ → List (List ℕ)
words_of line = filter is_word (slice_split is_blank line)

-- without the spaces and tabs in front, and without those at the end
abbrev pub trimmed_start : List ℕ → List ℕ
trimmed_start line = drop (position_or_len is_not_blank line) line

abbrev pub trimmed_end : List ℕ → List ℕ
trimmed_end line = take (length line - suffix_len is_blank line) line

-- the first word, or nothing, and what stands after it
abbrev pub first_word : List ℕ → List ℕ
first_word line = before_first is_blank (trimmed_start line)

abbrev pub after_word : List ℕ → List ℕ
after_word line = drop (position_or_len is_blank (trimmed_start line)) (trimmed_start line)

-- what stands after the first word, without spaces and tabs at both ends
abbrev pub text_after_word : List ℕ → List ℕ
text_after_word line = trimmed_end (trimmed_start (after_word line))

abbrev pub hash : ℕ
hash = 35

-- a line without words, and a comment
abbrev pub is_silent : List (List ℕ) → Bool
is_silent [] = true
is_silent (word ∷ words) = slice_index word 0 == hash

abbrev pub is_passed_over : List ℕ → Bool
is_passed_over line = is_silent (words_of line)

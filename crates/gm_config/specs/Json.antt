-- Looking into a value that was read from JSON.
--   list_of items                 the elements of an array as a list
--   elements d                    the elements of an array, none of another value
--   elements_at name d            the elements of the array at a member
--   text d                        the bytes of a string, none of another value
--   text_at name d                the bytes of the string at a member
--   whole d                       the whole number that a value is
--   number least most d           that number, where it is from least to most
--   number_at name least most d   such a number at a member
--   has_exactly names d           an object with these members, each named once, and no others
use Rattle.std.specs.Prelude.{ℕ, List, [], ◌∷◌, length, Bool, false, ◌&&◌, ◌==◌, if◌then◌else◌, nat_le, Option, Some, None, option_and_then, is_some}
use Rattle.std.specs.List.{list_all}
use Rattle.std.specs.Option.{option_map_or}
use Rattle.serde_json.specs.Data.{Data, Items, no_items, item}
use Rattle.serde_json.specs.Events.{members_len}
use Rattle.serde_json.specs.Find.{get, as_array, as_object, as_str, as_number, as_u64}

-- the elements of an array as a list
abbrev pub list_of : Items → List Data
list_of no_items = []
list_of (item d ds) = d ∷ list_of ds

-- the elements of an array, none of another value
abbrev pub elements : Data → List Data
elements d = option_map_or list_of (as_array d) []

-- the elements of the array at a member, none where there is no array
abbrev pub elements_at : List ℕ → Data → List Data
elements_at name d = option_map_or elements (get name d) []

-- the bytes of a string, none of another value
abbrev pub text : Data → List ℕ
text d = option_map_or (λ bytes. bytes) (as_str d) []

-- the bytes of the string at a member, none where there is no string
abbrev pub text_at : List ℕ → Data → List ℕ
text_at name d = option_map_or text (get name d) []

-- the whole number that a value is: a number with neither sign, point nor exponent that is below 2 ^ 64
abbrev pub whole : Data → Option ℕ
whole d = option_and_then as_u64 (as_number d)

-- the whole number that a value is, where it is from least to most
abbrev pub number : ℕ → ℕ → Data → Option ℕ
number least most d = option_and_then (λ n. if nat_le least n && nat_le n most then Some n else None) (whole d)

-- the whole number at a member, where it is from least to most
abbrev pub number_at : List ℕ → ℕ → ℕ → Data → Option ℕ
number_at name least most d = option_and_then (number least most) (get name d)

-- an object with these members and no others; the names all differ
abbrev pub has_exactly : List (List ℕ) → Data → Bool
has_exactly names d = option_map_or (λ members. members_len members == length names) (as_object d) false && list_all (λ name. is_some (get name d)) names

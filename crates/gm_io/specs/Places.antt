-- How files lie in one text, each with its name and then its bytes.
--   file_at text place          the file at a place
--   IsPlace text place          a place lies within the text, and the name there is text
--   EndsAt places n             the last place ends at n
--   IsLaidOut text places       each place is one in the text, and the last ends where it ends
--   IsStore store               so it is in a store, which has memory for all that may still be added
use Rattle.std.specs.Prelude.{◌≡◌, ℕ, ◌+◌, ◌≤◌, List, [], ◌∷◌, length, slice_range, ⊤, All, IsUtf8, vec_len, vec_capacity}
use Rattle.gm_io.specs.declared.file_stores.Place.{Place}
use Rattle.gm_io.specs.declared.file_stores.FileStore.TheInside.{Inside}

-- the name and the bytes of the file at a place
abbrev pub file_at : List ℕ → Place → List ℕ × List ℕ
file_at text place = (slice_range text place.name place.bytes, slice_range text place.bytes place.end)

-- a place is in order and within the text, and its name is text
pub record IsPlace (text : List ℕ) (place : Place) : Type 0 where
  pub name : place.name ≤ place.bytes
  pub bytes : place.bytes ≤ place.end
  pub within : place.end ≤ length text
  pub utf8 : IsUtf8 (slice_range text place.name place.bytes)

-- the last place, if there is one, ends at n
abbrev pub EndsAt : List Place → ℕ → Type 0
EndsAt [] n = ⊤
EndsAt (place ∷ []) n = place.end ≡ n
EndsAt (place ∷ next ∷ places) n = EndsAt (next ∷ places) n

-- each place is one in the text, and the last ends where the text ends
pub record IsLaidOut (text : List ℕ) (places : List Place) : Type 0 where
  pub each : All (IsPlace text) places
  pub last : EndsAt places (length text)

-- the places lie in the text, and memory is there for all the files and bytes that may still be added
pub record IsStore (store : Inside) : Type 0 where
  pub laid_out : IsLaidOut store.text.items store.places.items
  pub files : vec_len store.places + store.spare_files ≤ vec_capacity store.places
  pub bytes : vec_len store.text + store.room ≤ vec_capacity store.text

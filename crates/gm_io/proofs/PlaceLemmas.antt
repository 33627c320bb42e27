-- Lemmas on the places of files in a text that grows at its end.
use Rattle.std.proofs.Common.{◌≡◌, ℕ, zero, suc, ◌+◌, ◌≤◌, List, [], ◌∷◌, ◌++◌, length, map, get_or, set, drop, refl, sym, ap, ◌∙◌, arith, length-append}
use Rattle.std.specs.Prelude.{All, IsUtf8, slice_range}
use Rattle.std.proofs.lemmas.List.{take-append-le, drop-append-le, map-append}
use Rattle.std.proofs.lemmas.List.Edits.{between_none}
use Rattle.std.proofs.lemmas.List.Elements.{All-nil, All-cons, All-head, All-tail, All-push, All-weaker}
use Rattle.std.proofs.lemmas.Slice.{between_is, between_to_end}
use Rattle.gm_io.specs.declared.file_stores.Place.{Place}
use Rattle.gm_io.specs.FileList.{with_piece}
use Rattle.gm_io.specs.Places.{file_at, IsPlace, EndsAt, IsLaidOut}

-- a part of the text stays
pub slice_range-append : (text more : List ℕ) (a b : ℕ) → b ≤ length text → slice_range (text ++ more) a b ≡ slice_range text a b
slice_range-append text more a b within =
    between_is (text ++ more) a b ∙ ap (drop a) (take-append-le b text more within) ∙ sym (between_is text a b)

-- a part up to the end of the text has gained what the text has
pub slice_range-grown : (text more : List ℕ) (a : ℕ) → a ≤ length text
    → slice_range (text ++ more) a (length (text ++ more)) ≡ slice_range text a (length text) ++ more
slice_range-grown text more a within =
    between_to_end (text ++ more) a _ (omega arith) ∙ drop-append-le a text more within
    ∙ ap (λ part. part ++ more) (sym (between_to_end text a _ (omega arith)))

-- a file stays where it is
pub file_at-append : (text more : List ℕ) (place : Place) → IsPlace text place → file_at (text ++ more) place ≡ file_at text place
file_at-append text more place at =
    rw (slice_range-append text more place.name place.bytes (omega arith), slice_range-append text more place.bytes place.end (omega arith)) refl

pub IsPlace-append : (text more : List ℕ) (place : Place) → IsPlace text place → IsPlace (text ++ more) place
IsPlace-append text more place at = record {
  name = at.name;
  bytes = at.bytes;
  within = omega (arith, length-append text more);
  utf8 = rw (slice_range-append text more place.name place.bytes (omega arith)) at.utf8;
}

pub map-file_at-append : (text more : List ℕ) (places : List Place) → All (IsPlace text) places
    → map (file_at (text ++ more)) places ≡ map (file_at text) places
map-file_at-append text more [] each = refl
map-file_at-append text more (place ∷ places) each =
    rw (file_at-append text more place (All-head (IsPlace text) place places each), map-file_at-append text more places (All-tail (IsPlace text) place places each)) refl

-- the place of a new file at the end, which has no bytes
abbrev pub new_place : List ℕ → List ℕ → Place
new_place text name = record { name = length text; bytes = length (text ++ name); end = length (text ++ name) }

-- it is the one that is put at the end of the places
pub new_place_is : (text name text' : List ℕ) (start end : ℕ) → text' ≡ text ++ name → start ≡ length text → end ≡ length text'
    → ◌≡◌ {A = Place} (record { name = start; bytes = end; end = end }) (new_place text name)
new_place_is text name text' start end grown first last = rw (first, last, grown) refl

pub EndsAt-push : (places : List Place) (place : Place) → EndsAt (places ++ place ∷ []) place.end
EndsAt-push [] place = refl
EndsAt-push (_ ∷ []) place = refl
EndsAt-push (_ ∷ next ∷ places) place = EndsAt-push (next ∷ places) place

-- a new file stands last
pub map-file_at-push : (text name : List ℕ) (places : List Place) → All (IsPlace text) places
    → map (file_at (text ++ name)) (places ++ new_place text name ∷ []) ≡ map (file_at text) places ++ (name, []) ∷ []
map-file_at-push text name places each =
    rw (
      map-append,
      map-file_at-append text name places each,
      slice_range-grown text name (length text) (omega arith),
      between_none text (length text),
      between_none (text ++ name) (length (text ++ name)),
    ) refl

pub IsLaidOut-push : (text name : List ℕ) (places : List Place) → IsUtf8 name → IsLaidOut text places
    → IsLaidOut (text ++ name) (places ++ new_place text name ∷ [])
IsLaidOut-push text name places utf8 laid = record {
  each =
      All-push (IsPlace (text ++ name)) places (new_place text name)
      (All-weaker (IsPlace text) (IsPlace (text ++ name)) (IsPlace-append text name) places laid.each)
      (record {
        name = omega (arith, length-append text name);
        bytes = omega arith;
        within = omega arith;
        utf8 = rw (slice_range-grown text name (length text) (omega arith), between_none text (length text)) utf8;
      });
  last = EndsAt-push places (new_place text name);
}

-- the last place, if there is one, is made to end at n
abbrev pub with_end : List Place → ℕ → List Place
with_end [] n = []
with_end (place ∷ []) n = record place { end = n } ∷ []
with_end (place ∷ next ∷ places) n = place ∷ with_end (next ∷ places) n

pub set-last : (places : List Place) (i n : ℕ) (last : Place) → i + 1 ≡ length places → last ≡ get_or places i last
    → set places i (record last { end = n }) ≡ with_end places n
set-last [] i n last size at = absurd (omega arith)
set-last (place ∷ []) zero n last size at = rw at refl
set-last (place ∷ []) (suc i) n last size at = absurd (omega arith)
set-last (place ∷ next ∷ places) zero n last size at = absurd (omega arith)
set-last (place ∷ next ∷ places) (suc i) n last size at = ap (λ rest. place ∷ rest) (set-last (next ∷ places) i n last (omega arith) at)

pub EndsAt-with_end : (places : List Place) (n : ℕ) → EndsAt (with_end places n) n
EndsAt-with_end [] n = tt
EndsAt-with_end (place ∷ []) n = refl
EndsAt-with_end (place ∷ next ∷ []) n = refl
EndsAt-with_end (place ∷ next ∷ after ∷ places) n = EndsAt-with_end (next ∷ after ∷ places) n

pub All-with_end : (text more : List ℕ) (places : List Place) → All (IsPlace text) places
    → All (IsPlace (text ++ more)) (with_end places (length (text ++ more)))
All-with_end text more [] each = All-nil (IsPlace (text ++ more))
All-with_end text more (place ∷ []) each =
    let at = IsPlace-append text more place (All-head (IsPlace text) place [] each) in
    All-cons (IsPlace (text ++ more)) (record place { end = length (text ++ more) }) []
    (record {
      name = at.name;
      bytes = omega arith;
      within = omega arith;
      utf8 = at.utf8;
    })
    (All-nil (IsPlace (text ++ more)))
All-with_end text more (place ∷ next ∷ places) each =
    All-cons (IsPlace (text ++ more)) place (with_end (next ∷ places) (length (text ++ more)))
    (IsPlace-append text more place (All-head (IsPlace text) place (next ∷ places) each))
    (All-with_end text more (next ∷ places) (All-tail (IsPlace text) place (next ∷ places) each))

-- the last file has gained what the text has
pub map-file_at-with_end : (text more : List ℕ) (places : List Place) → All (IsPlace text) places → EndsAt places (length text)
    → map (file_at (text ++ more)) (with_end places (length (text ++ more))) ≡ with_piece (map (file_at text) places) more
map-file_at-with_end text more [] each last = refl
map-file_at-with_end text more (place ∷ []) each last =
    let at : IsPlace text place = All-head (IsPlace text) place [] each in
    rw (slice_range-append text more place.name place.bytes (omega arith), slice_range-grown text more place.bytes (omega arith), last) refl
map-file_at-with_end text more (place ∷ next ∷ places) each last =
    rw (
      file_at-append text more place (All-head (IsPlace text) place (next ∷ places) each),
      map-file_at-with_end text more (next ∷ places) (All-tail (IsPlace text) place (next ∷ places) each) last,
    ) refl

-- the places stay laid out where the last one grows with the text
pub IsLaidOut-with_end : (text more : List ℕ) (places : List Place) → IsLaidOut text places
    → IsLaidOut (text ++ more) (with_end places (length (text ++ more)))
IsLaidOut-with_end text more places laid = record {
  each = All-with_end text more places laid.each;
  last = EndsAt-with_end places (length (text ++ more));
}

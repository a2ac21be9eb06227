-- Lists of values, and of what they stand for.
use Rattle.std.proofs.Common.{◌≡◌, refl, ap, length, List, [], ◌∷◌, map, Bool, ◌&&◌, ◌||◌}
use Rattle.std.specs.List.{list_all, list_any}
use Rattle.std.proofs.lemmas.List.{length-map}
use Rattle.serde_json.specs.Data.{Data}
use Rattle.serde_json.specs.View.{view, items_view}
use Rattle.serde_json.specs.declared.value.Value.{Value}
use Rattle.rule_text.specs.Fields.{list_of}

pub list_of_items : (vs : List Value) → list_of (items_view vs) ≡ map view vs
list_of_items [] = refl
list_of_items (v ∷ vs) = ap (λ (ds : List Data). view v ∷ ds) (list_of_items vs)

pub list_all_map : (test : Data → Bool) (vs : List Value) → list_all test (map view vs) ≡ list_all (λ v. test (view v)) vs
list_all_map test [] = refl
list_all_map test (v ∷ vs) = ap (λ (b : Bool). test (view v) && b) (list_all_map test vs)

pub list_any_map : (test : Data → Bool) (vs : List Value) → list_any test (map view vs) ≡ list_any (λ v. test (view v)) vs
list_any_map test [] = refl
list_any_map test (v ∷ vs) = ap (λ (b : Bool). test (view v) || b) (list_any_map test vs)

pub length_view : (vs : List Value) → length (map view vs) ≡ length vs
length_view vs = length-map vs view

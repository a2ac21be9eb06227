-- Words in UTF-8 as names.
use Rattle.std.proofs.Common.{◌≡◌, ℕ, List, Bool, true, false, IsUtf8, Ok, Err, refl}
use Rattle.std.specs.Str.{is_utf8}
use Rattle.std.proofs.lemmas.Str.{IsUtf8-from_is_utf8, is_utf8-from_IsUtf8}
use Rattle.pd_ctl.specs.Places.{name}
use Rattle.pd_ctl.specs.declared.fault.CtlFault.TheVariants.{BadNumber}

pub name_is : (word : List ℕ) → IsUtf8 word → name word ≡ Ok word
name_is word h = rw (is_utf8-from_IsUtf8 word h) refl

no_name_if : (word : List ℕ) (b : Bool) → is_utf8 word ≡ b → (IsUtf8 word → ⊥) → name word ≡ Err BadNumber
no_name_if word true e h = absurd (h (IsUtf8-from_is_utf8 word e))
no_name_if word false e h = rw e refl

pub no_name : (word : List ℕ) → (IsUtf8 word → ⊥) → name word ≡ Err BadNumber
no_name word h = no_name_if word (is_utf8 word) refl h

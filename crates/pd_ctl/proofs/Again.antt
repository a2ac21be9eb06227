-- The words by which a command is written are read as that command.
use Rattle.std.proofs.Common.{◌≡◌, ℕ, ◌<◌, ◌≤◌, ◌^◌, refl, sym, arith, Bool, true, false, ◌&&◌, nat_le, List, [], ◌∷◌, codes, Some, None, Ok}
use Rattle.std.specs.Fmt.{decimal}
use Rattle.std.specs.Str.{bytes_eq}
use Rattle.std.specs.Str.Parse.{AllDigits}
use Rattle.std.proofs.lemmas.Bool.Decides.{nat_tests}
use Rattle.std.proofs.lemmas.Slice.Eq.{bytes_eq-Decides}
use Rattle.hex.specs.Hex.{encode_lower, encode_with, IsBytes}
use Rattle.hex.proofs.HexLemmas.{decode_of-encode_lower}
use Rattle.op_step.specs.declared.wishes.Wish.{Wish}
use Rattle.op_step.specs.declared.wishes.Wish.TheVariants as wishes
use Rattle.pd_lines.specs.Keys.{key_of}
use Rattle.pd_lines.specs.Numeral.{number_of}
use Rattle.pd_lines.proofs.Numerals.{has_digits, number_law}
use Rattle.store_limit.specs.declared.limits.LimitKind.{LimitKind}
use Rattle.store_limit.specs.declared.limits.LimitKind.TheVariants as kinds
use Rattle.store_limit.specs.declared.bucket.TheConstants.{MAX_RATE}
use Rattle.pd_ctl.specs.Commands.{command_by}
use Rattle.pd_ctl.specs.Places.{kind, name, number, rate, rate_of}
use Rattle.pd_ctl.specs.Printed.{command_words, key_text, kind_text, wish_words, IsWritable, IsWritableWish}
use Rattle.pd_ctl.specs.declared.command.Command.{Command}
use Rattle.pd_ctl.specs.declared.command.Command.TheVariants.{Stores, Store, StoreDelete, StoreLimit, Region, RegionKey, OperatorShow, OperatorAdd, OperatorRemove, OperatorCheck, SchedulerShow, SchedulerRemove, LeaderShow, LeaderResign, Tso}
use Rattle.pd_ctl.proofs.Utf8.{name_is}

numeral_is : (n : ℕ) → n < 2 ^ 64 → number_of (decimal n) ≡ Some n
numeral_is n small = (number_law (decimal n) n).1 (small, refl)

number_again : (n : ℕ) → n < 2 ^ 64 → number (decimal n) ≡ Ok n
number_again n small = rw (numeral_is n small) refl

rate_if : (n : ℕ) (b : Bool) → nat_le n MAX_RATE ≡ b → n ≤ MAX_RATE → rate (decimal n) ≡ Ok n
rate_if n true e low = let small : n < 2 ^ 64 = omega arith in rw (numeral_is n small, e) refl
rate_if n false e low = absurd (grind (arith, nat_tests, e, low))

rate_again : (n : ℕ) → n ≤ MAX_RATE → rate (decimal n) ≡ Ok n
rate_again n low = rate_if n (nat_le n MAX_RATE) refl low

kind_again : (of : LimitKind) → kind (kind_text of) ≡ Ok of
kind_again kinds.AddPeer = refl
kind_again kinds.RemovePeer = refl

-- a number is no such word
no_word : (n : ℕ) (word : List ℕ) → n < 2 ^ 64 → (AllDigits 10 word → ⊥) → bytes_eq (decimal n) word ≡ false
no_word n word small none = by (bytes_eq (decimal n) word) refl
  where
    by : (b : Bool) → bytes_eq (decimal n) word ≡ b → bytes_eq (decimal n) word ≡ false
    by true e = absurd (none (has_digits word n (small, sym ((bytes_eq-Decides (decimal n) word).0 e))))
    by false e = e

store_again : (id : ℕ) → id < 2 ^ 64 → command_by (command_words (Store id)) ≡ Ok (Store id)
store_again id small =
    let delete = no_word id (codes "delete") small (λ digits. let low = digits.0 in omega arith) in
    let limit = no_word id (codes "limit") small (λ digits. let low = digits.0 in omega arith) in
    rw (delete, limit, numeral_is id small) refl

region_again : (id : ℕ) → id < 2 ^ 64 → command_by (command_words (Region id)) ≡ Ok (Region id)
region_again id small =
    let key = no_word id (codes "key") small (λ digits. let low = digits.0 in omega arith) in
    rw (key, numeral_is id small) refl

and_false : (b : Bool) → (b && false) ≡ false
and_false true = refl
and_false false = refl

-- two digits are no dash
not_dash : (byte : ℕ) (bytes : List ℕ) → bytes_eq (encode_lower (byte ∷ bytes)) (codes "-") ≡ false
unfolding encode_with
not_dash byte bytes = and_false _

key_again : (key : List ℕ) → IsBytes key → key_of (key_text key) ≡ Some key
key_again [] good = refl
key_again (byte ∷ bytes) good =
    let back = decode_of-encode_lower (byte ∷ bytes) good in
    let dash : bytes_eq (encode_lower (byte ∷ bytes)) (codes "-") ≡ false = not_dash byte bytes in
    rw (dash, back) refl

region_key_again : (key : List ℕ) → IsBytes key → command_by (command_words (RegionKey key)) ≡ Ok (RegionKey key)
region_key_again key good = rw (key_again key good) refl

wish_again : (region : ℕ) (wish : Wish) → region < 2 ^ 64 → IsWritableWish wish → command_by (wish_words region wish) ≡ Ok (OperatorAdd region wish)
wish_again region (wishes.AddPeer store) small good = rw (numeral_is region small, numeral_is store good) refl
wish_again region (wishes.TransferLeader store) small good = rw (numeral_is region small, numeral_is store good) refl
wish_again region (wishes.RemovePeer store) small good = rw (numeral_is region small, numeral_is store good) refl
wish_again region (wishes.MovePeer from to) small good = rw (numeral_is region small, numeral_is from good.0, numeral_is to good.1) refl

pub again : (command : Command) → IsWritable command → command_by (command_words command) ≡ Ok command
again Stores good = refl
again (Store id) good = store_again id good
again (StoreDelete id) good = rw (numeral_is id good) refl
again (StoreLimit id per of) good = rw (numeral_is id good.0, rate_again per good.1, kind_again of) refl
again (Region id) good = region_again id good
again (RegionKey key) good = region_key_again key good
again OperatorShow good = refl
again (OperatorAdd region wish) good = wish_again region wish good.0 good.1
again (OperatorRemove region) good = rw (numeral_is region good) refl
again (OperatorCheck region) good = rw (numeral_is region good) refl
again SchedulerShow good = refl
again (SchedulerRemove name) good = rw (name_is name good) refl
again LeaderShow good = refl
again LeaderResign good = refl
again (Tso ts) good = rw (numeral_is ts good) refl

pub rate_upto : (word : List ℕ) (n : ℕ) → number_of word ≡ Some n → n ≤ 1000000 → rate_of word ≡ Some n
rate_upto word n is low = by (nat_le n MAX_RATE) refl
  where
    by : (b : Bool) → nat_le n MAX_RATE ≡ b → rate_of word ≡ Some n
    by true e = rw (is, e) refl
    by false e = absurd (grind (arith, nat_tests, e, low))

pub rate_above : (word : List ℕ) (n : ℕ) → number_of word ≡ Some n → 1000000 < n → rate_of word ≡ None
rate_above word n is high = by (nat_le n MAX_RATE) refl
  where
    by : (b : Bool) → nat_le n MAX_RATE ≡ b → rate_of word ≡ None
    by true e = absurd (grind (arith, nat_tests, e, high))
    by false e = rw (is, e) refl

-- How commands are written (pd-ctl): the fixed words, then numbers in decimal and keys in lower case hexadecimal digits.
use Rattle.std.specs.Prelude.{ℕ, ◌<◌, ◌≤◌, ◌^◌, List, [], ◌∷◌, codes, IsUtf8, ⊤}
use Rattle.std.specs.Fmt.{decimal}
use Rattle.hex.specs.Hex.{encode_lower, IsBytes}
use Rattle.op_step.specs.declared.wishes.Wish.{Wish}
use Rattle.op_step.specs.declared.wishes.Wish.TheVariants as wishes
use Rattle.store_limit.specs.declared.bucket.TheConstants.{MAX_RATE}
use Rattle.store_limit.specs.declared.limits.LimitKind.{LimitKind}
use Rattle.store_limit.specs.declared.limits.LimitKind.TheVariants as kinds
use Rattle.pd_ctl.specs.declared.command.Command.{Command}
use Rattle.pd_ctl.specs.declared.command.Command.TheVariants.{Stores, Store, StoreDelete, StoreLimit, Region, RegionKey, OperatorShow, OperatorAdd, OperatorRemove, OperatorCheck, SchedulerShow, SchedulerRemove, LeaderShow, LeaderResign, Tso}

-- the word of a limit
abbrev pub kind_text : LimitKind → List ℕ
kind_text kinds.AddPeer = codes "add-peer"
kind_text kinds.RemovePeer = codes "remove-peer"

-- a key, the empty one as `-`
abbrev pub key_text : List ℕ → List ℕ
key_text [] = codes "-"
key_text (byte ∷ bytes) = encode_lower (byte ∷ bytes)

-- a wish for a region
abbrev pub wish_words : ℕ → Wish → List (List ℕ)
wish_words region (wishes.AddPeer store) = codes "operator" ∷ codes "add" ∷ codes "add-peer" ∷ decimal region ∷ decimal store ∷ []
wish_words region (wishes.TransferLeader store) = codes "operator" ∷ codes "add" ∷ codes "transfer-leader" ∷ decimal region ∷ decimal store ∷ []
wish_words region (wishes.RemovePeer store) = codes "operator" ∷ codes "add" ∷ codes "remove-peer" ∷ decimal region ∷ decimal store ∷ []
wish_words region (wishes.MovePeer from to) = codes "operator" ∷ codes "add" ∷ codes "transfer-peer" ∷ decimal region ∷ decimal from ∷ decimal to ∷ []

-- a command
abbrev pub command_words : Command → List (List ℕ)
command_words Stores = codes "store" ∷ []
command_words (Store id) = codes "store" ∷ decimal id ∷ []
command_words (StoreDelete id) = codes "store" ∷ codes "delete" ∷ decimal id ∷ []
command_words (StoreLimit id rate kind) = codes "store" ∷ codes "limit" ∷ decimal id ∷ decimal rate ∷ kind_text kind ∷ []
command_words (Region id) = codes "region" ∷ decimal id ∷ []
command_words (RegionKey key) = codes "region" ∷ codes "key" ∷ key_text key ∷ []
command_words OperatorShow = codes "operator" ∷ codes "show" ∷ []
command_words (OperatorAdd region wish) = wish_words region wish
command_words (OperatorRemove region) = codes "operator" ∷ codes "remove" ∷ decimal region ∷ []
command_words (OperatorCheck region) = codes "operator" ∷ codes "check" ∷ decimal region ∷ []
command_words SchedulerShow = codes "scheduler" ∷ codes "show" ∷ []
command_words (SchedulerRemove name) = codes "scheduler" ∷ codes "remove" ∷ name ∷ []
command_words LeaderShow = codes "member" ∷ codes "leader" ∷ codes "show" ∷ []
command_words LeaderResign = codes "member" ∷ codes "leader" ∷ codes "resign" ∷ []
command_words (Tso ts) = codes "tso" ∷ decimal ts ∷ []

-- the stores of a wish are numbers of 64 bits
abbrev pub IsWritableWish : Wish → Type 0
IsWritableWish (wishes.AddPeer store) = store < 2 ^ 64
IsWritableWish (wishes.TransferLeader store) = store < 2 ^ 64
IsWritableWish (wishes.RemovePeer store) = store < 2 ^ 64
IsWritableWish (wishes.MovePeer from to) = (from < 2 ^ 64) × (to < 2 ^ 64)

-- the numbers are of 64 bits, a rate is in its range, a key consists of bytes and a name is text
abbrev pub IsWritable : Command → Type 0
IsWritable Stores = ⊤
IsWritable (Store id) = id < 2 ^ 64
IsWritable (StoreDelete id) = id < 2 ^ 64
IsWritable (StoreLimit id rate kind) = (id < 2 ^ 64) × (rate ≤ MAX_RATE)
IsWritable (Region id) = id < 2 ^ 64
IsWritable (RegionKey key) = IsBytes key
IsWritable OperatorShow = ⊤
IsWritable (OperatorAdd region wish) = (region < 2 ^ 64) × IsWritableWish wish
IsWritable (OperatorRemove region) = region < 2 ^ 64
IsWritable (OperatorCheck region) = region < 2 ^ 64
IsWritable SchedulerShow = ⊤
IsWritable (SchedulerRemove name) = IsUtf8 name
IsWritable LeaderShow = ⊤
IsWritable LeaderResign = ⊤
IsWritable (Tso ts) = ts < 2 ^ 64

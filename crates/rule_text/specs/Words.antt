-- The words for roles and operators (PD documentation, "Placement Rules": `role`, `op`).
use Rattle.std.specs.Prelude.{ℕ, List, if◌then◌else◌, codes, Option, Some, None}
use Rattle.std.specs.Str.{bytes_eq}
use Rattle.pd_types.specs.declared.rule.RuleRole.{RuleRole}
use Rattle.pd_types.specs.declared.rule.RuleRole.TheVariants.{Voter, Leader, Follower, Learner}
use Rattle.pd_types.specs.declared.rule.Op.{Op}
use Rattle.pd_types.specs.declared.rule.Op.TheVariants.{In, NotIn, Exists, NotExists}

-- the role that the word names
abbrev pub role_of : List ℕ → Option RuleRole
role_of word =
    if bytes_eq word (codes "voter") then Some Voter
    else if bytes_eq word (codes "leader") then Some Leader
    else if bytes_eq word (codes "follower") then Some Follower
    else if bytes_eq word (codes "learner") then Some Learner
    else None

-- the word for a role
abbrev pub role_word : RuleRole → List ℕ
role_word Voter = codes "voter"
role_word Leader = codes "leader"
role_word Follower = codes "follower"
role_word Learner = codes "learner"

-- the operator that the word names
abbrev pub op_of : List ℕ → Option Op
op_of word =
    if bytes_eq word (codes "in") then Some In
    else if bytes_eq word (codes "notIn") then Some NotIn
    else if bytes_eq word (codes "exists") then Some Exists
    else if bytes_eq word (codes "notExists") then Some NotExists
    else None

-- the word for an operator
abbrev pub op_word : Op → List ℕ
op_word In = codes "in"
op_word NotIn = codes "notIn"
op_word Exists = codes "exists"
op_word NotExists = codes "notExists"

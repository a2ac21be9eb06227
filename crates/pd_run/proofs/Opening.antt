-- The streams of one driver's cluster, and the ports of its stores.
use Rattle.std.proofs.Common.{◌≡◌, ℕ, suc, List, [], ◌∷◌, ◌++◌, length, map, refl, sym, ap, ◌∙◌, arith, subst, append_assoc}
use Rattle.std.specs.Prelude.{All}
use Rattle.std.specs.Arc.{arc_value}
use Rattle.std.specs.List.{AllZip}
use Rattle.std.specs.List.Sorted.{IsPermutation}
use Rattle.std.proofs.lemmas.List.{append-nil, length-map}
use Rattle.std.proofs.lemmas.List.Sorted.{IsPermutation-refl}
use Rattle.std.proofs.lemmas.List.Elements.{All-cons, All-head, All-nil, All-tail}
use Rattle.pd_turn.specs.Turns.{AreApart}
use Rattle.pd_shared.specs.Names.{StreamName, streams_of}
use Rattle.pd_shared.specs.Outlets.{AreOutletsOf, OutletValue, named}
use Rattle.pd_shared.specs.Shares.{ShareValue, SharedValue, actor_of, new_share}
use Rattle.pd_run.specs.Pipes.{ArePipesTo, IsNewPipe, OpensPort, end_by, outlet_by, pipe_name}
use Rattle.pd_run.specs.declared.begin.PopEnd.{PopEnd}
use Rattle.pd_run.specs.declared.pipe.Pipe.{Pipe}
use Rattle.pd_run.specs.declared.storing.Port.{Port}
use Rattle.pd_run.proofs.Lists.{head_or, rest_of, zip_push}

same_names : (driver : ℕ) (pipes : List Pipe) → map (named driver) (map outlet_by pipes) ≡ map (pipe_name driver) pipes
same_names driver [] = refl
same_names driver (p ∷ pipes) = ap (λ l. pipe_name driver p ∷ l) (same_names driver pipes)

same_stores : (pipes : List Pipe) → map (λ (o : OutletValue). o.store) (map outlet_by pipes) ≡ map (λ (p : Pipe). p.store) pipes
same_stores [] = refl
same_stores (p ∷ pipes) = ap (λ l. p.store ∷ l) (same_stores pipes)

pub outlets_of : (streams : List StreamName) (driver : ℕ) (pipes : List Pipe) (stores : List ℕ) (givers : List OutletValue) → givers ≡ map outlet_by pipes → streams_of driver streams ≡ map (pipe_name driver) pipes
    → map (λ (p : Pipe). p.store) pipes ≡ stores → AreApart (0 ∷ stores) → AreOutletsOf streams driver givers
outlets_of streams driver pipes stores givers are listed ids apart = record {
  listed = subst (λ l. IsPermutation l (streams_of driver streams)) (listed ∙ sym (same_names driver pipes) ∙ ap (map (named driver)) (sym are)) (IsPermutation-refl (streams_of driver streams));
  apart = subst AreApart (sym ids ∙ sym (same_stores pipes) ∙ ap (map (λ (o : OutletValue). o.store)) (sym are)) apart.1;
}

pub none_pushed : (pipes : List Pipe) → All (λ (o : OutletValue). o.pushed ≡ []) (map outlet_by pipes)
none_pushed [] = All-nil (λ (o : OutletValue). o.pushed ≡ [])
none_pushed (p ∷ pipes) = All-cons (λ (o : OutletValue). o.pushed ≡ []) (outlet_by p) (map outlet_by pipes) refl (none_pushed pipes)

-- PORTS
-- of a cluster's new shares the one of a pipe's store
abbrev pub share_of_pipe : SharedValue → Pipe → ShareValue
share_of_pipe cluster p = new_share cluster (actor_of cluster.driver p.store)

-- so many ports were made; the ends and the shares of the other pipes are left
pub record Ported {N : Type 0} (cluster : SharedValue) (pipes : List Pipe) (ends : List PopEnd) (shares : List ShareValue) (ports : List (Port N)) : Type 0 where
  pub done : List Pipe
  pub left : List Pipe
  pub parts : done ++ left ≡ pipes
  pub ends_are : ends ≡ map end_by left
  pub shares_are : shares ≡ map (share_of_pipe cluster) left
  pub new : All IsNewPipe left
  pub pairs : AllZip (OpensPort cluster) done ports

shares_of_stores : (cluster : SharedValue) (pipes : List Pipe) (stores : List ℕ) → map (λ (p : Pipe). p.store) pipes ≡ stores → map (new_share cluster) (map (actor_of cluster.driver) stores) ≡ map (share_of_pipe cluster) pipes
shares_of_stores cluster pipes stores is = ap (λ s. map (new_share cluster) (map (actor_of cluster.driver) s)) (sym is) ∙ by pipes
  where
    by : (ps : List Pipe) → map (new_share cluster) (map (actor_of cluster.driver) (map (λ (p : Pipe). p.store) ps)) ≡ map (share_of_pipe cluster) ps
    by [] = refl
    by (p ∷ ps) = ap (λ l. share_of_pipe cluster p ∷ l) (by ps)

pub ported_none : {N : Type 0} (cluster : SharedValue) (pipes : List Pipe) (stores : List ℕ) (all rest : List ShareValue) (share : ShareValue) (ends : List PopEnd) (ports : List (Port N)) → all ≡ map (new_share cluster) (map (actor_of cluster.driver) (0 ∷ stores)) → all ≡ share ∷ rest
    → ends ≡ map end_by pipes → ArePipesTo stores pipes → ports ≡ [] → Ported cluster pipes ends rest ports
ported_none cluster pipes stores all rest share ends ports are first ends_are to none = record {
  done = [];
  left = pipes;
  parts = refl;
  ends_are = ends_are;
  shares_are = ap rest_of (sym first ∙ are) ∙ shares_of_stores cluster pipes stores to.stores_are;
  new = to.new;
  pairs = subst (AllZip (OpensPort cluster) []) (sym none) tt;
}

pub ported_more : {N : Type 0} (cluster : SharedValue) (pipes : List Pipe) (ends fewer : List PopEnd) (shares less : List ShareValue) (ports more : List (Port N)) (end : PopEnd) (share : ShareValue) (port : Port N)
    → Ported cluster pipes ends shares ports → ends ≡ end ∷ fewer → shares ≡ share ∷ less → more ≡ ports ++ port ∷ [] → port.share ≡ share → port.taker ≡ end.taker → arc_value port.stream ≡ arc_value end.stream → Ported cluster pipes fewer less more
ported_more {N} cluster pipes ends fewer shares less ports more end share port h is one grown same taker stream = by h.left h.parts h.ends_are h.shares_are h.new
  where
    by : (left : List Pipe) → h.done ++ left ≡ pipes → ends ≡ map end_by left → shares ≡ map (share_of_pipe cluster) left → All IsNewPipe left → Ported cluster pipes fewer less more
    by [] parts ends_are shares_are new = absurd (cons_nil (sym is ∙ ends_are))
      where
        cons_nil : end ∷ fewer ≡ [] → ⊥
        cons_nil e = absurd (let n : suc (length fewer) ≡ 0 = ap length e in omega (arith, n))
    by (p ∷ left) parts ends_are shares_are new =
        let e : end ≡ end_by p = ap (head_or end) (sym is ∙ ends_are) in
        let s : share ≡ share_of_pipe cluster p = ap (head_or share) (sym one ∙ shares_are) in
        let opened : OpensPort cluster p port = record {
          share_is = same ∙ s;
          taker_is = taker ∙ ap (λ (x : PopEnd). x.taker) e ∙ (All-head IsNewPipe p left new).taker;
          stream_is = stream ∙ ap (λ (x : PopEnd). arc_value x.stream) e;
        } in record {
          done = h.done ++ p ∷ [];
          left = left;
          parts = append_assoc h.done (p ∷ []) left ∙ parts;
          ends_are = ap rest_of (sym is ∙ ends_are);
          shares_are = ap rest_of (sym one ∙ shares_are);
          new = All-tail IsNewPipe p left new;
          pairs = subst (AllZip (OpensPort cluster) (h.done ++ p ∷ [])) (sym grown) (zip_push (OpensPort cluster) h.done ports p port h.pairs opened);
        }

pub ported_all : {N : Type 0} (cluster : SharedValue) (pipes : List Pipe) (shares : List ShareValue) (ports : List (Port N)) → Ported cluster pipes [] shares ports → AllZip (OpensPort cluster) pipes ports
ported_all {N} cluster pipes shares ports h = by h.left h.parts h.ends_are
  where
    by : (left : List Pipe) → h.done ++ left ≡ pipes → [] ≡ map end_by left → AllZip (OpensPort {N = N} cluster) pipes ports
    by [] parts none = subst (λ l. AllZip (OpensPort {N = N} cluster) l ports) (sym (append-nil h.done) ∙ parts) h.pairs
    by (p ∷ left) parts none = absurd (let n : 0 ≡ suc (length (map end_by left)) = ap length none in omega (arith, n))

-- as many shares are left as ends
pub ported_same : {N : Type 0} (cluster : SharedValue) (pipes : List Pipe) (ends : List PopEnd) (shares : List ShareValue) (ports : List (Port N)) → Ported cluster pipes ends shares ports → length ends ≡ length shares
ported_same cluster pipes ends shares ports h = omega (arith, ap length h.ends_are, ap length h.shares_are, length-map h.left end_by, length-map h.left (share_of_pipe cluster))

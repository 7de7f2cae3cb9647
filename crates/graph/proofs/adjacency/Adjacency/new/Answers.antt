use Rattle.std.proofs.Common.{◌≡◌, ℕ, zero, suc, ◌+◌, ◌<◌, ◌≤◌, List, [], ◌∷◌, ◌++◌, length, get_or, take, drop, set, replicate, refl, ap, subst, ◌∙◌, ◌-◌, length-drop, arith, length-set, get_or-set_other, length-append}
use Rattle.std.proofs.lemmas.List.{append-nil, length-take-le, get_or-replicate}
use Rattle.std.proofs.lemmas.List.Edits.{fill_by_more}
use Rattle.graph.specs.declared.edge.Edge.{Edge}
use Rattle.graph.proofs.Flat.{flat, flat_written, length_more, flat_short, starts_rise, starts_short, found}
use Rattle.graph.proofs.adjacency.Adjacency.new.Goals as goal

-- each list starts within the ends
pub slice_bounds-write_heads-count : goal.slice_bounds-write_heads-count
slice_bounds-write_heads-count c =
    let start = c.loop-n.invariant.before c.loop-n.n (omega arith) in
    let s = flat_short c.loop-n.n c.args.edges.now in
    omega arith

length_rest : (a : ℕ) (xs : List ℕ) → length xs ≡ 384 → length (take (384 - a) (drop a xs)) ≡ 384 - a
length_rest a xs h = let d = length-drop a xs in length-take-le (384 - a) (drop a xs) (omega arith)

pub write_heads-requires : goal.write_heads-requires
write_heads-requires c =
    let start = c.loop-n.invariant.before c.loop-n.n (omega arith) in
    let m = length_more c.loop-n.n c.args.edges.now in
    let s = flat_short (c.loop-n.n + 1) c.args.edges.now in
    let r = length_rest (get_or c.loop-n.lists.0 c.loop-n.n 0) c.loop-n.lists.1.0 (omega arith) in
    omega arith

first_before : (xs : List ℕ) (es : List Edge) (i : ℕ) → i < 1 → get_or (0 ∷ xs) i 0 ≡ length (flat i es)
first_before xs es zero h = refl
first_before xs es (suc i) h = absurd (omega arith)

all_behind : (n x : ℕ) (xs : List ℕ) → xs ≡ replicate n x → (i : ℕ) → 0 < i → i ≤ n → get_or (0 ∷ (xs ++ [])) i 0 ≡ x
all_behind n x xs e zero l h = absurd (omega arith)
all_behind n x xs e (suc i) l h = ap (λ (ys : List ℕ). get_or ys i 0) (append-nil xs ∙ e) ∙ get_or-replicate n i x 0 (omega arith)

pub loop-n-init : goal.loop-n-init
loop-n-init c =
    let rest = c.fill.new.self in
    let l = length-append rest [] in
    record {
      in_order = refl;
      before = first_before (rest ++ []) c.args.edges.now;
      behind = all_behind 288 (length c.args.edges.now) rest (c.fill.ensures.after (λ y e. e));
      long = let e = c.fill.ensures.len in omega arith;
    }

pub loop-n-preserved : goal.loop-n-preserved
loop-n-preserved c =
    let i = c.loop-n.invariant in
    let es = c.args.edges.now in
    let n = c.loop-n.n in
    let xs = c.loop-n.lists.0 in
    let start = i.before n (omega arith) in
    let m = length_more n es in
    let s = flat_short (n + 1) es in
    let room = length_rest (get_or xs n 0) c.loop-n.lists.1.0 (omega arith) in
    let put = c.write_heads.ensures in
    let next = get_or xs n 0 + c.write_heads.result in
    record {
      in_order = flat_written n es _ _ _ c.loop-n.lists.1.0 c.write_heads.new.ends i.in_order start (omega arith) put.front put.count (omega arith);
      before = subst (λ (x : ℕ). (k : ℕ) → k < (n + 1) + 1 → get_or (set xs (n + 1) x) k 0 ≡ length (flat k es)) (omega arith)
          (fill_by_more (λ k. length (flat k es)) xs (n + 1) 0 (omega arith) i.before);
      behind = λ k l h. get_or-set_other xs (n + 1) k next 0 (λ e. omega arith) ∙ i.behind k (omega arith) h;
      long = length-set xs (n + 1) next ∙ i.long;
    }

pub invariant_of-lists : goal.invariant_of-lists
invariant_of-lists c =
    let i = c.loop-n.invariant in
    let es = c.args.edges.now in
    record {
      rising = starts_rise c.loop-n.n es c.loop-n.lists.0 i.before i.behind;
      inside = starts_short c.loop-n.n es c.loop-n.lists.0 i.before i.behind c.requires.short;
    }

pub returns : goal.returns
returns c n h =
    let i = c.loop-n.invariant in
    found c.loop-n.n n c.args.edges.now c.loop-n.lists.1.0 _ (omega arith) i.in_order _ _ (i.before n (omega arith)) (i.before (n + 1) (omega arith))

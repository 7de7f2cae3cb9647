-- Edges that are put one behind another. Assumes nothing.
use Rattle.std.proofs.Common.{◌≡◌, ℕ, zero, suc, ◌+◌, ◌<◌, ◌≤◌, Bool, true, false, cond, not, ◌&&◌, ◌||◌, T, List, [], ◌∷◌, ◌++◌, length, get_or, take, ℤ, Some, None, Option, sym, refl, ap, ◌∙◌, subst, append_assoc, le_of_lt, arith, length-append}
use Rattle.std.proofs.lemmas.List.{take_more, map_push, length-take-le, length-map}
use Rattle.std.proofs.lemmas.Bool.{and_parts}
use Rattle.graph.specs.declared.edge.Edge.{Edge}
use Rattle.line.specs.declared.label.Label.{Label}
use Rattle.line.specs.declared.syntax.Line.{Line}
use Rattle.line.specs.Words.{same_label}
use Rattle.numbering.specs.Numbers.{known, number, number_in}
use Rattle.wellformed.specs.Lines.{fan, at, dangles, edges_from}
use Rattle.wellformed.proofs.Lined.{at_read, edges_push, edges_few, length_fan}
use Rattle.program.specs.Asked.{asks, nexts}
use Rattle.program.specs.Refusals.{labels_of, every_known, places_of}
use Rattle.program.specs.Written.{Lines}
use Rattle.program.proofs.Lawfully.{lawful}
use Rattle.program.proofs.Scanning.{take_step}

fan_push : (i : ℕ) (hs : List ℕ) (h : ℕ) → fan i (hs ++ (h ∷ [])) ≡ fan i hs ++ (record { tail = i; head = h } ∷ [])
fan_push i [] h = refl
fan_push i (g ∷ hs) h = ap (λ (es : List Edge). record { tail = i; head = g } ∷ es) (fan_push i hs h)

-- a known label has its number
known_at : (items ks : List Label) (i : ℕ) (a : Label) → every_known items ks ≡ true → i < length ks → a ≡ get_or ks i a → known same_label a items ≡ true
known_at items [] i a k l e = absurd (omega arith)
known_at items (b ∷ ks) zero a k l e = ap (λ (x : Label). known same_label x items) e ∙ (and_parts (known same_label b items) (every_known items ks) k).0
known_at items (b ∷ ks) (suc i) a k l e = known_at items ks i a (and_parts (known same_label b items) (every_known items ks) k).1 (omega arith) e

module _ (items ks : List Label) (i : ℕ) (a : Label) (all : every_known items ks ≡ true) (l : i < length ks) (e : a ≡ get_or ks i a) where
  found : number_in same_label a items ≡ Some (number same_label a items)
  found = ap (λ (b : Bool). cond b (Some (number same_label a items)) None) (known_at items ks i a all l e)

  -- so it is found
  pub is_found : (o : Option ℕ) → o ≡ number_in same_label a items → o ≡ None → ⊥
  is_found o p n = let f = found in let z : ◌≡◌ {A = ℕ} 0 1 = cc in omega arith

  -- one edge more
  pub edge_more : (n h : ℕ) (es front : List Edge) → Some h ≡ number_in same_label a items
      → es ≡ front ++ fan n (places_of items (take i ks))
      → es ++ (record { tail = n; head = h } ∷ []) ≡ front ++ fan n (places_of items (take (i + 1) ks))
  edge_more n h es front f held =
      let same : h ≡ number same_label a items = let g = found in cc in
      let more : places_of items (take (i + 1) ks) ≡ places_of items (take i ks) ++ (h ∷ [])
      = ap (places_of items) (take_more ks i a l ∙ ap (λ (b : Label). take i ks ++ (b ∷ [])) (sym e)) ∙ map_push (λ b. number same_label b items) (take i ks) a
      ∙ ap (λ (j : ℕ). places_of items (take i ks) ++ (j ∷ [])) (sym same) in
      ap (λ (l : List Edge). l ++ (record { tail = n; head = h } ∷ [])) held
      ∙ append_assoc front (fan n (places_of items (take i ks))) (record { tail = n; head = h } ∷ [])
      ∙ ap (λ (l : List Edge). front ++ l) (sym (ap (fan n) more ∙ fan_push n (places_of items (take i ks)) h))

-- no label of a line is wanting

all_known : (ls : Lines) (ks : List Label) → (T (dangles asks ls ks) → ⊥) → every_known (labels_of ls) ks ≡ true
all_known ls [] f = refl
all_known ls (a ∷ ks) f = by (known same_label a (labels_of ls)) f (all_known ls ks)
  where
    by : (b : Bool) → (T (not b || dangles asks ls ks) → ⊥) → ((T (dangles asks ls ks) → ⊥) → every_known (labels_of ls) ks ≡ true) → (b && every_known (labels_of ls) ks) ≡ true
    by true f g = g f
    by false f g = absurd (f tt)

module _ (ls : Lines) (k : ℕ) (x : Line ℤ) (i : k < length ls) (e : x ≡ get_or ls k x) where
  pub line_known : (T (at (λ y. dangles asks ls (nexts y)) ls k) → ⊥) → every_known (labels_of ls) (nexts x) ≡ true
  line_known f = all_known ls (nexts x) (λ t. f (subst T (sym (at_read (λ y. dangles asks ls (nexts y)) ls k x i e)) t))

  pub edges_step : edges_from asks ls 0 (take (k + 1) ls) ≡ edges_from asks ls 0 (take k ls) ++ fan k (places_of (labels_of ls) (nexts x))
  edges_step =
      ap (edges_from asks ls 0) (take_step ls k x i e) ∙ edges_push asks ls (take k ls) 0 x
      ∙ ap (λ (j : ℕ). edges_from asks ls 0 (take k ls) ++ fan j (places_of (labels_of ls) (nexts x))) (let q = length-take-le k ls (le_of_lt i) in let z : 0 + length (take k ls) ≡ k = omega arith in z)

  -- there is room for the edges of one line more
  pub edges_room : (es : List Edge) → es ≡ edges_from asks ls 0 (take k ls) → length ls ≤ 96 → length es + length (nexts x) ≤ 192
  edges_room es held small =
      let few = edges_few asks lawful ls (take k ls) 0 in
      let size = length-take-le k ls (le_of_lt i) in
      let two = lawful.two x in
      let same = ap length held in
      omega arith

-- as many edges as labels, so far
pub fan_long : (n : ℕ) (items ks : List Label) (i : ℕ) (es front : List Edge) → i ≤ length ks → es ≡ front ++ fan n (places_of items (take i ks)) → length es ≡ length front + i
fan_long n items ks i es front h e =
    ap length e ∙ length-append front _ ∙ ap (λ k. length front + k) (length_fan n (places_of items (take i ks)) ∙ length-map (take i ks) (λ a. number same_label a items) ∙ length-take-le i ks h)

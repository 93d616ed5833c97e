-- The records of a file, and the parts that it is the bytes of. Assumes nothing.
use Rattle.std.proofs.Common.{◌≡◌, ℕ, ◌+◌, ◌*◌, ◌<◌, ◌≤◌, zero, suc, List, [], ◌∷◌, ◌++◌, length, get_or, set, take, drop, sym, refl, ap, ◌∙◌, arith, add-one, append_assoc, drop-cons, lit<, lit≤, length-drop, drop-drop}
use Rattle.std.specs.Simd.{first_chunks}
use Rattle.std.proofs.lemmas.List.{map_more, set_at, ext_get_or, get_or-take, get_or-drop, get_or-map, length-map, take-append-drop, length-take-le, take_at, drop_at}
use Rattle.std.proofs.lemmas.List.FromFn.{length-map-range_with_len, get_or-map-range_with_len}
use Rattle.layout.specs.declared.record.Record.{Record}
use Rattle.layout.specs.Rules.{Parts, no_record, entry}
use Rattle.load.specs.Files.{le16, le32, le64, N, L1, L2, after_head, record_at, records_of, unpacked, Encodes}

pub records_length : (n : ℕ) (bs : List ℕ) → length (records_of n bs) ≡ n
unfolding records_of
records_length n bs = length-map-range_with_len (λ k. record_at bs (32 * k)) 0 n

pub records_at : (n : ℕ) (bs : List ℕ) (i : ℕ) → i < n → entry (records_of n bs) i ≡ record_at bs (32 * i)
unfolding records_of
records_at n bs i h = get_or-map-range_with_len (λ k. record_at bs (32 * k)) 0 n i i no_record h (omega arith)

-- the bytes of a part of 32 bytes
module _ (bs : List ℕ) (from : ℕ) where
  part_at : (i j : ℕ) → i < 32 → from + i ≡ j → get_or (take 32 (drop from bs)) i 0 ≡ get_or bs j 0
  part_at i j lt is = get_or-take 32 (drop from bs) i 0 lt ∙ get_or-drop from bs i 0 ∙ ap (λ x. get_or bs x 0) is

  part16 : (i j : ℕ) → i + 2 ≤ 32 → from + i ≡ j → le16 (take 32 (drop from bs)) i ≡ le16 bs j
  part16 i j lt is =
      let a = part_at i j (omega arith) is in
      let b = part_at (i + 1) (j + 1) (omega arith) (omega arith) in
      cc

  part32 : (i j : ℕ) → i + 4 ≤ 32 → from + i ≡ j → le32 (take 32 (drop from bs)) i ≡ le32 bs j
  part32 i j lt is =
      let a = part_at i j (omega arith) is in
      let b = part_at (i + 1) (j + 1) (omega arith) (omega arith) in
      let c = part_at (i + 2) (j + 2) (omega arith) (omega arith) in
      let d = part_at (i + 3) (j + 3) (omega arith) (omega arith) in
      cc

  part64 : (i j : ℕ) → i + 8 ≤ 32 → from + i ≡ j → le64 (take 32 (drop from bs)) i ≡ le64 bs j
  part64 i j lt is =
      let a = part32 i j (omega arith) is in
      let b = part32 (i + 4) (j + 4) (omega arith) (omega arith) in
      cc

  record_part : record_at (take 32 (drop from bs)) 0 ≡ record_at bs from
  unfolding record_at
  record_part k = record {
    kind = part_at 0 from (lit< tt) (omega arith) k;
    sub = part_at 1 (from + 1) (lit< tt) refl k;
    mark = part16 2 (from + 2) (lit≤ tt) refl k;
    a = part32 4 (from + 4) (lit≤ tt) refl k;
    b = part32 8 (from + 8) (lit≤ tt) refl k;
    place = part32 12 (from + 12) (lit≤ tt) refl k;
    value = part64 16 (from + 16) (lit≤ tt) refl k;
    bits = part64 24 (from + 24) (lit≤ tt) refl k;
  }

chunk_at : (m i : ℕ) (bs : List ℕ) → i < m → get_or (first_chunks 32 m bs) i [] ≡ take 32 (drop (32 * i) bs)
chunk_at zero i bs lt = absurd (omega arith)
chunk_at (suc m) zero bs lt = refl
chunk_at (suc m) (suc i) bs lt = chunk_at m i (drop 32 bs) (omega arith) ∙ ap (take 32) (drop-drop (32 * i) 32 bs ∙ ap (λ x. drop x bs) (omega arith))

-- the first n parts of a file's bytes hold its first n records
pub unpacked_chunks : (bs : List ℕ) (m n : ℕ) (parts : List (List ℕ)) → parts ≡ first_chunks 32 m bs → length parts ≡ m → n ≤ m → unpacked (take n parts) ≡ records_of n bs
unpacked_chunks bs m n parts is long le =
    let count = length-take-le n parts (omega arith) in
    let size : length (unpacked (take n parts)) ≡ n = length-map (take n parts) (λ xs. record_at xs 0) ∙ count in
    ext_get_or no_record _ _ (size ∙ sym (records_length n bs)) (λ i h.
    get_or-map (λ xs. record_at xs 0) (take n parts) i [] no_record (omega arith)
    ∙ ap (λ xs. record_at xs 0) (get_or-take n parts i [] (omega arith) ∙ ap (λ xs. get_or xs i []) is ∙ chunk_at m i bs (omega arith))
    ∙ record_part bs (32 * i) ∙ sym (records_at n bs i (omega arith)))

-- one record more is copied
pub copied_more : (parts : List (List ℕ)) (from : List Record) (i : ℕ) (r : Record) → i < length parts → i < length from → r ≡ record_at (get_or parts i []) 0 →
    set (unpacked (take i parts) ++ drop i from) i r ≡ unpacked (take (i + 1) parts) ++ drop (i + 1) from
copied_more parts from i r a b is =
    let front = unpacked (take i parts) in
    let back = drop (i + 1) from in
    let long : length front ≡ i = length-map (take i parts) (λ bs. record_at bs 0) ∙ length-take-le i parts (omega arith) in
    let later : drop i from ≡ get_or from i no_record ∷ back = drop-cons from i no_record b ∙ ap (λ j. get_or from i no_record ∷ drop j from) (sym (add-one i)) in
    ap (λ xs. set (front ++ xs) i r) later
    ∙ set_at front (get_or from i no_record) back r i long
    ∙ ap (λ x. front ++ x ∷ back) is
    ∙ sym (ap (λ xs. xs ++ back) (map_more (λ bs. record_at bs 0) parts i [] a) ∙ append_assoc front _ back)

module _ (f : List ℕ) where
  -- what the bytes of a file hold, where its head says the truth
  abbrev pub held_in : Parts
  held_in = record { records = records_of (N f) (after_head f); names = take (L1 f) (drop (32 * N f) (after_head f)); strings = drop (L1 f) (drop (32 * N f) (after_head f)) }

  module _ (headed : 12 ≤ length f) (size : length (after_head f) ≡ 32 * N f + L1 f + L2 f) where
    pools_length : length (drop (32 * N f) (after_head f)) ≡ L1 f + L2 f
    pools_length = let d = length-drop (32 * N f) (after_head f) in omega arith

    pub names_length : length held_in.names ≡ L1 f
    names_length = length-take-le (L1 f) (drop (32 * N f) (after_head f)) (let p = pools_length in omega arith)

    pub strings_length : length held_in.strings ≡ L2 f
    strings_length = let d = length-drop (L1 f) (drop (32 * N f) (after_head f)) in let p = pools_length in omega arith

    pub encodes : Encodes f held_in
    encodes =
        let r = records_length (N f) (after_head f) in
        record {
          head = headed;
          count = sym r;
          names_size = sym names_length;
          strings_size = sym strings_length;
          size = let n = names_length in let s = strings_length in omega arith;
          records = λ i h. records_at (N f) (after_head f) i (omega arith);
          pools = ap (λ n. drop (32 * n) (after_head f)) r ∙ sym (take-append-drop (L1 f) (drop (32 * N f) (after_head f)));
        }

  -- a file is the bytes of no other parts
  pub encodes_only : (p : Parts) → Encodes f p → p ≡ held_in
  encodes_only p e =
      let pools : drop (32 * N f) (after_head f) ≡ p.names ++ p.strings = ap (λ n. drop (32 * n) (after_head f)) e.count ∙ e.pools in
      let rs : p.records ≡ records_of (N f) (after_head f) = ext_get_or no_record p.records (records_of (N f) (after_head f)) (sym e.count ∙ sym (records_length (N f) (after_head f)))
      (λ i h. e.records i h ∙ sym (records_at (N f) (after_head f) i (omega (arith, e.count)))) in
      let ns : p.names ≡ take (L1 f) (drop (32 * N f) (after_head f)) = sym (ap (take (L1 f)) pools ∙ take_at p.names p.strings (L1 f) (sym e.names_size)) in
      let ss : p.strings ≡ drop (L1 f) (drop (32 * N f) (after_head f)) = sym (ap (drop (L1 f)) pools ∙ drop_at p.names p.strings (L1 f) (sym e.names_size)) in
      λ i. record { records = rs i; names = ns i; strings = ss i }

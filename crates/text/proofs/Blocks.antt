-- A run that is told by blocks: whole blocks of one byte at the front of a row, and then the bytes after them. Assumes nothing.
use Rattle.std.proofs.Common.{◌≡◌, ℕ, zero, suc, ◌+◌, ◌*◌, ◌≤◌, Bool, true, false, eqb, List, ◌++◌, length, take, drop, replicate, sym, refl, ap, ◌∙◌, append_assoc, mul-add, mul-one, mul-zero, zero-add, arith, length-append}
use Rattle.std.specs.List.{prefix_len}
use Rattle.std.specs.Simd.{first_chunks}
use Rattle.std.specs.Str.{bytes_eq}
use Rattle.std.proofs.lemmas.Bool.{cond-true, cond-false}
use Rattle.std.proofs.lemmas.List.{take-append-drop, drop-drop, length-replicate, replicate-append-replicate}
use Rattle.std.proofs.lemmas.Slice.Eq.{bytes_eq-Decides}
use Rattle.text.proofs.Runs.{run_on}

-- so many bytes b, and then a row
after_same : (b n : ℕ) (row : List ℕ) → prefix_len (eqb b) (replicate n b ++ row) ≡ n + prefix_len (eqb b) row
after_same b zero row = sym (zero-add _)
after_same b (suc n) row = run_on b b (replicate n b ++ row) refl ∙ (let i = after_same b n row in let s : suc (prefix_len (eqb b) (replicate n b ++ row)) ≡ suc n + prefix_len (eqb b) row = omega (arith, i) in s)

-- how many of the first k blocks of n bytes have byte b only, up to the first that has another
abbrev pub blocks_of : ℕ → ℕ → ℕ → List ℕ → ℕ
blocks_of b n k row = prefix_len (bytes_eq (replicate n b)) (first_chunks n k row)

module _ (b n : ℕ) where
  -- a block more
  block_more : (m : ℕ) (row : List ℕ) → replicate n b ≡ take n row → replicate (n * m) b ++ drop (n * m) (drop n row) ≡ drop n row → replicate (n * (1 + m)) b ++ drop (n * (1 + m)) row ≡ row
  block_more m row first rest =
      let both : n * (1 + m) ≡ n + n * m = mul-add n 1 m ∙ ap (λ x. x + n * m) (mul-one n) in
      ap (λ x. replicate x b ++ drop x row) both
      ∙ (λ i. sym (replicate-append-replicate n (n * m) b) i ++ sym (drop-drop (n * m) n row) i)
      ∙ append_assoc (replicate n b) (replicate (n * m) b) (drop (n * m) (drop n row))
      ∙ (λ i. first i ++ rest i)
      ∙ take-append-drop n row

  -- whether the first block is one of them
  block_told :
      (same : Bool) (k : ℕ) (row : List ℕ) → bytes_eq (replicate n b) (take n row) ≡ same →
      replicate (n * blocks_of b n k (drop n row)) b ++ drop (n * blocks_of b n k (drop n row)) (drop n row) ≡ drop n row →
      replicate (n * blocks_of b n (suc k) row) b ++ drop (n * blocks_of b n (suc k) row) row ≡ row
  block_told true k row e rest =
      ap (λ x. replicate (n * x) b ++ drop (n * x) row) (cond-true _ _ _ e) ∙ block_more (blocks_of b n k (drop n row)) row ((bytes_eq-Decides (replicate n b) (take n row)).0 e) rest
  block_told false k row e rest = ap (λ x. replicate (n * x) b ++ drop (n * x) row) (cond-false _ _ _ e) ∙ ap (λ x. replicate x b ++ drop x row) (mul-zero n)

  blocks_alike : (k : ℕ) (row : List ℕ) → replicate (n * blocks_of b n k row) b ++ drop (n * blocks_of b n k row) row ≡ row
  blocks_alike zero row = ap (λ x. replicate x b ++ drop x row) (mul-zero n)
  blocks_alike (suc k) row = block_told (bytes_eq (replicate n b) (take n row)) k row refl (blocks_alike k (drop n row))

  module _ (k : ℕ) (row : List ℕ) {blocks : List (List ℕ)} {w : ℕ} (cut : blocks ≡ first_chunks n k row) (told : w ≡ prefix_len (bytes_eq (replicate n b)) blocks) where
    whole : replicate (n * w) b ++ drop (n * w) row ≡ row
    whole = ap (λ x. replicate (n * x) b ++ drop (n * x) row) (told ∙ ap (prefix_len (bytes_eq (replicate n b))) cut) ∙ blocks_alike k row

    pub blocks_within : n * w ≤ length row
    blocks_within = omega (arith, ap length whole, length-append (replicate (n * w) b) (drop (n * w) row), length-replicate (n * w) b)

    -- with what follows them they are the run
    pub run_by_blocks : {rest : List ℕ} {r : ℕ} → rest ≡ drop (n * w) row → r ≡ prefix_len (eqb b) rest → n * w + r ≡ prefix_len (eqb b) row
    run_by_blocks left run =
        ap (λ x. n * w + x) (run ∙ ap (prefix_len (eqb b)) left) ∙ sym (after_same b (n * w) (drop (n * w) row)) ∙ ap (prefix_len (eqb b)) whole

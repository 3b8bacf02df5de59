-- What a contract hands to a caller, as a statement. Assumes nothing.

-- what a caller learns from a contract L says P, at any lifetimes κ, arguments a, result r and loans at exit e
abbrev pub Says : {K : Type 0} {A R E : K → Type 0} → ((κ : K) → A κ → R κ → E κ → Type 0) → ((κ : K) → A κ → R κ → E κ → Type 0) → Type 0
Says {K} {A} {R} {E} L P = (κ : K) (a : A κ) (r : R κ) (e : E κ) → L κ a r e → P κ a r e

-- a function asks nothing of its caller, or no more than Q
abbrev pub Free : {K : Type 0} {A : K → Type 0} → ((κ : K) → A κ → Type 0) → Type 0
Free {K} {A} Asked = (κ : K) (a : A κ) → Asked κ a

abbrev pub Asks : {K : Type 0} {A : K → Type 0} → ((κ : K) → A κ → Type 0) → ((κ : K) → A κ → Type 0) → Type 0
Asks {K} {A} Asked Q = (κ : K) (a : A κ) → Q κ a → Asked κ a

-- the parameters of a function, and what was lent to it at its exit, by their places
abbrev pub first : {A T : Type 0} → A × T → A
first a = a.0

abbrev pub second : {A B T : Type 0} → A × (B × T) → B
second a = a.1.0

abbrev pub third : {A B C T : Type 0} → A × (B × (C × T)) → C
third a = a.1.1.0

abbrev pub fourth : {A B C D T : Type 0} → A × (B × (C × (D × T))) → D
fourth a = a.1.1.1.0

abbrev pub fifth : {A B C D F T : Type 0} → A × (B × (C × (D × (F × T)))) → F
fifth a = a.1.1.1.1.0

abbrev pub sixth : {A B C D F G T : Type 0} → A × (B × (C × (D × (F × (G × T))))) → G
sixth a = a.1.1.1.1.1.0

abbrev pub seventh : {A B C D F G H T : Type 0} → A × (B × (C × (D × (F × (G × (H × T)))))) → H
seventh a = a.1.1.1.1.1.1.0

abbrev pub eighth : {A B C D F G H I T : Type 0} → A × (B × (C × (D × (F × (G × (H × (I × T))))))) → I
eighth a = a.1.1.1.1.1.1.1.0

abbrev pub ninth : {A B C D F G H I J T : Type 0} → A × (B × (C × (D × (F × (G × (H × (I × (J × T)))))))) → J
ninth a = a.1.1.1.1.1.1.1.1.0

abbrev pub tenth : {A B C D F G H I J K T : Type 0} → A × (B × (C × (D × (F × (G × (H × (I × (J × (K × T))))))))) → K
tenth a = a.1.1.1.1.1.1.1.1.1.0

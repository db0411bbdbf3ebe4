-- The proofs about the definitions of specs/ (document 01, and source 000's semantics Sem_T and Sem_M): Laws says that they hold.
pub mod Laws
pub mod KeyCabinet

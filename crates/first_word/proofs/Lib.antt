-- That readers and Admit answer by the first offending word (document 01, under the table of refusals).
pub mod Laws
